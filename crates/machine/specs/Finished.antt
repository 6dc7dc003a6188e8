-- The plain machine's finish: refused for a version that no index has, then exactly when row 9 holds, otherwise the index of its entries.
use Rattle.std.specs.Prelude.{ℕ, List, cond, ltb, length}
use Rattle.std.proofs.lemmas.List.Edits.{sets}
use Rattle.layout.specs.Versions.{version_bad}
use Rattle.builder.specs.Calls.{builder_of}
use Rattle.builder.specs.Index.{Settings, settings}
use Rattle.builder.specs.Finish.{Finish, unwritten}
use Rattle.machine.specs.Plain.{Entry, plain_index, plain_directory}

unfoldable pub plain_finish : Settings → List Entry → List ℕ → Finish
plain_finish S es out =
    cond (ltb (length out) (length (plain_index S es)))
    (unwritten 9 (builder_of (length es)) out)
    (record {
      no = 0;
      builder = builder_of (length es);
      out = sets out 0 (plain_index S es);
      total = length (plain_index S es);
      directory = length (plain_directory es);
    })

-- of a version
unfoldable pub plain_finish_in : ℕ → List Entry → List ℕ → Finish
plain_finish_in version es out =
    cond (version_bad version) (unwritten 30 (builder_of (length es)) out) (plain_finish (settings version) es out)
