-- What is prepared for a table is prepared for the bytes of its own, and a search for one kind of byte keeps what is known of the other.
use Rattle.std.proofs.Common.{◌≡◌, ℕ, List, sym, subst}
use Rattle.automaton.specs.Live.{FirstLive, EndLive, Firsts, Ends}
use Rattle.automaton_live.specs.declared.Prepared.{Prepared}
use Rattle.automaton_live.specs.Prepared.{IsPrepared, FirstsReady, EndsReady}

module _ {t : List ℕ} {p : Prepared} (i : FirstsReady t p) where
  pub same-first : (s first : ℕ) → FirstLive p.table.bytes.now s first → FirstLive t s first
  same-first s first f = subst (λ (u : List ℕ). FirstLive u s first) i.same f

  pub same-firsts : {q : Prepared} → FirstsReady p.table.bytes.now q → FirstsReady t q
  same-firsts {q} f = subst (λ (u : List ℕ). FirstsReady u q) i.same f

module _ {t : List ℕ} {p : Prepared} (i : EndsReady t p) where
  pub same-end : (s end : ℕ) → EndLive p.table.bytes.now s end → EndLive t s end
  same-end s end f = subst (λ (u : List ℕ). EndLive u s end) i.same f

  pub same-ends : {q : Prepared} → EndsReady p.table.bytes.now q → EndsReady t q
  same-ends {q} f = subst (λ (u : List ℕ). EndsReady u q) i.same f

module _ {t : List ℕ} {p : Prepared} (i : IsPrepared t p) where
  pub firsts-ready : FirstsReady t p
  firsts-ready = record { same = i.same; found = i.found; lowest = i.lowest }

  pub ends-ready : EndsReady t p
  ends-ready = record { same = i.same; found = i.found; highest = i.highest }

  pub same-prepared : {q : Prepared} → IsPrepared p.table.bytes.now q → IsPrepared t q
  same-prepared {q} f = subst (λ (u : List ℕ). IsPrepared u q) i.same f

  pub first-kept : {q : Prepared} → FirstsReady p.table.bytes.now q → q.ends ≡ p.ends → IsPrepared t q
  first-kept {q} f e =
      let r = same-firsts firsts-ready f in
      record { same = r.same; found = r.found; lowest = r.lowest; highest = subst (Ends t) (sym e) i.highest }

  pub end-kept : {q : Prepared} → EndsReady p.table.bytes.now q → q.firsts ≡ p.firsts → IsPrepared t q
  end-kept {q} f e =
      let r = same-ends ends-ready f in
      record { same = r.same; found = r.found; lowest = subst (Firsts t) (sym e) i.lowest; highest = r.highest }
