-- If the moment of a mark is appended to the moments of the mark's lane, the lanes have the moments of all marks so
-- far.
use Rattle.std.proofs.Common.{◌≡◌, ◌<◌, ◌+◌, ℕ, zero, suc, Bool, true, false, List, [], ◌∷◌, ◌++◌, length, get_or, refl, sym, ap, ◌∙◌, append-nil, length-append, arith}
use Rattle.std.specs.Prelude.{◌==◌, if◌then◌else◌, slice_set}
use Rattle.std.specs.Global.{Vec}
use Rattle.std.proofs.lemmas.Bool.{eq-eqb, eqb-true}
use Rattle.key_names.specs.Lanes.Book.{list_at}
use Rattle.audit_keys.specs.declared.moments.Moment.{Moment}
use Rattle.audit_keys.specs.declared.moments.Moments.{Moments}
use Rattle.audit_keys.specs.Cut.{moment_lists}
use Rattle.key_audit.specs.Moments.{HasMarks}

set_here : (cpus : List (Vec Moment)) (k : ℕ) (lane : Vec Moment) → k < length cpus →
    list_at (moment_lists (slice_set cpus k lane)) k ≡ lane.items
set_here [] k lane low = absurd (omega arith)
set_here (x ∷ cpus) zero lane low = refl
set_here (x ∷ cpus) (suc k) lane low = set_here cpus k lane (omega arith)

set_there : (cpus : List (Vec Moment)) (k c : ℕ) (lane : Vec Moment) → (k ≡ c → ⊥) →
    list_at (moment_lists (slice_set cpus k lane)) c ≡ list_at (moment_lists cpus) c
set_there [] k c lane other = refl
set_there (x ∷ cpus) zero zero lane other = absurd (other refl)
set_there (x ∷ cpus) zero (suc c) lane other = refl
set_there (x ∷ cpus) (suc k) zero lane other = refl
set_there (x ∷ cpus) (suc k) (suc c) lane other = set_there cpus k c lane (λ e. other (ap suc e))

was_here : (cpus : List (Vec Moment)) (k : ℕ) (d : Vec Moment) → k < length cpus →
    (get_or cpus k d).items ≡ list_at (moment_lists cpus) k
was_here [] k d low = absurd (omega arith)
was_here (x ∷ cpus) zero d low = refl
was_here (x ∷ cpus) (suc k) d low = was_here cpus k d (omega arith)

-- if the moment `m` is appended to CPU `k`, this CPU has `m` as its last moment, and every other CPU has the same
-- moments as before
pub one_more : (cpus : List (Vec Moment)) (k : ℕ) (old lane : Vec Moment) (m : Moment) → k < length cpus →
    old ≡ get_or cpus k old → lane.items ≡ old.items ++ m ∷ [] → (c : ℕ) →
    list_at (moment_lists (slice_set cpus k lane)) c
    ≡ list_at (moment_lists cpus) c ++ (if k == c then m ∷ [] else [])
one_more cpus k old lane m low was more c = go (k == c) refl
  where
    go : (b : Bool) → (k == c) ≡ b →
        list_at (moment_lists (slice_set cpus k lane)) c ≡ list_at (moment_lists cpus) c ++ (if b then m ∷ [] else [])
    go true is =
        let same : k ≡ c = eqb-true k c is in
        ap (λ n. list_at (moment_lists (slice_set cpus k lane)) n) (sym same)
        ∙ set_here cpus k lane low ∙ more
        ∙ ap (λ ms. ms ++ m ∷ []) (ap (λ (l : Vec Moment). l.items) was ∙ was_here cpus k old low
        ∙ ap (λ n. list_at (moment_lists cpus) n) same)
    go false is =
        set_there cpus k c lane (λ e. (let t : (k == c) ≡ true = eq-eqb k c e in cc))
        ∙ sym (append-nil (list_at (moment_lists cpus) c))

-- if no CPU in `cpus` has moments, none has moments after a CPU `lane` without moments is added
no_more : (cpus : List (Vec Moment)) (lane : Vec Moment) → lane.items ≡ [] →
    ((c : ℕ) → c < length cpus → list_at (moment_lists cpus) c ≡ []) → (c : ℕ) →
    list_at (moment_lists (cpus ++ lane ∷ [])) c ≡ []
no_more [] lane none each zero = none
no_more [] lane none each (suc c) = refl
no_more (x ∷ cpus) lane none each zero = each 0 (omega arith)
no_more (x ∷ cpus) lane none each (suc c) = no_more cpus lane none (λ d lt. each (suc d) (omega arith)) c

pub cpu_more : (many : ℕ) (lane : Vec Moment) (old new : Moments) → lane.items ≡ [] → HasMarks many [] old →
    new.pool.items ≡ old.pool.items → new.base.items ≡ old.base.items →
    new.cpus.items ≡ old.cpus.items ++ lane ∷ [] → HasMarks (many + 1) [] new
cpu_more many lane old new none has pool base more = record {
  pool = pool ∙ has.pool;
  base = base ∙ has.base;
  count = ap length more ∙ length-append old.cpus.items (lane ∷ []) ∙ ap (λ n. n + 1) has.count;
  cpus = λ c lt. ap (λ ls. list_at (moment_lists ls) c) more
      ∙ no_more old.cpus.items lane none (λ d low. has.cpus d (let n = has.count in omega arith)) c;
}
