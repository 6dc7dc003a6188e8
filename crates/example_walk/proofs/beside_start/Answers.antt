-- Inside the key its own byte leads on.
use Rattle.example_walk.proofs.Fronts.{reached-more}
use Rattle.example_walk.proofs.beside_start.Goals as goal

pub returns-clause-reached : goal.returns-clause-reached
returns-clause-reached c =
    let a = c.args in
    reached-more a.measured.now.table.bytes.now a.key.now a.place a.state c.accept.result c.if-place-key.false
    c.requires.1 c.accept.ensures.0 c.accept.ensures.1
