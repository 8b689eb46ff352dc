-- The code carries a value along a list of entries. Before each entry the value matches the state that the earlier
-- entries leave, and at the end it matches the last state.
use Rattle.std.proofs.Common.{◌≡◌, ◌≤◌, ◌+◌, ℕ, List, length, take, Some, sym, subst}
use Rattle.std.specs.Prelude.{slice_get}
use Rattle.std.specs.List.{fold}
use Rattle.std.proofs.lemmas.List.{take_all}
use Rattle.judge_log.proofs.Loops.{fold_at}

module _ {S E K : Type 0} (step : S → E → S) (start : S) (Conforms : S → ℕ → K → Type 0) (entries : List E) where
  abbrev pub ConformsAt : ℕ → K → Type 0
  ConformsAt place k = Conforms (fold step start (take place entries)) place k

  pub conforms_more : (place : ℕ) (e : E) (k : K) → slice_get entries place ≡ Some e →
      Conforms (step (fold step start (take place entries)) e) (place + 1) k → ConformsAt (place + 1) k
  conforms_more place e k is h =
      subst (λ s. Conforms s (place + 1) k) (sym (fold_at step start entries place e is)) h

  pub conforms_all : (place : ℕ) (k : K) → length entries ≤ place → ConformsAt place k →
      Conforms (fold step start entries) place k
  conforms_all place k all h = subst (λ es. Conforms (fold step start es) place k) (take_all place entries all) h
