-- When one more word is taken, the list of the taken words grows by this word. If the draw rejects the word, the list
-- of the rejected words grows too.
use Rattle.std.proofs.Common.{◌≡◌, ◌≢◌, ◌<◌, ◌+◌, ◌*◌, ◌/◌, ◌%◌, ℕ, List, [], ◌∷◌, ◌++◌, length, refl, subst, sym, ap, ◌∙◌, nat_le, true, false, length-append}
use Rattle.std.specs.List.{AllByRecursion}
use Rattle.std.proofs.lemmas.Bool.{ne_eqb}
use Rattle.draw_below.specs.Draws.{Takes, Draws, IsRejected}

takes_more : {W : Type 0} (gives : W → ℕ → W → Type 0) (w : W) (rs : List ℕ) (u : W) (r : ℕ) (v : W) →
    Takes gives w rs u → gives u r v → Takes gives w (rs ++ r ∷ []) v
takes_more gives w [] u r v t g = (v, subst (λ x. gives x r v) (sym t) g, refl)
takes_more gives w (x ∷ rs) u r v t g = (t.0, t.1, takes_more gives t.0 rs u r v t.2 g)

all_more : (P : ℕ → Type 0) (rs : List ℕ) (r : ℕ) → AllByRecursion P rs → P r → AllByRecursion P (rs ++ r ∷ [])
all_more P [] r a p = (p, a)
all_more P (x ∷ rs) r a p = (a.0, all_more P rs r a.1 p)

-- the invariant of a draw below `c` that took the `n` words `rs` so far, and rejected all of them
abbrev pub Rejects : {W : Type 0} → (W → ℕ → W → Type 0) → ℕ → W → List ℕ → W → ℕ → Type 0
Rejects gives c w rs u n = (length rs ≡ n) × AllByRecursion (IsRejected c) rs × Takes gives w rs u

pub one_more : {W : Type 0} (gives : W → ℕ → W → Type 0) (c : ℕ) (w : W) (rs : List ℕ) (u : W) (r : ℕ) (v : W)
    (n : ℕ) (rs' : List ℕ) → c ≢ 0 → Rejects gives c w rs u n → gives u r v →
    false ≡ nat_le (4294967296 % c) (c * r % 4294967296) → rs' ≡ rs ++ r ∷ [] → Rejects gives c w rs' v (n + 1)
one_more gives c w rs u r v n rs' some had gave rejected is =
    let refused : IsRejected c r = rw (ne_eqb c 0 some) (sym rejected) in
    subst (λ xs. Rejects gives c w xs v (n + 1)) (sym is) (
      length-append rs (r ∷ []) ∙ ap (λ m. m + 1) had.0,
      all_more (IsRejected c) rs r had.1 refused,
      takes_more gives w rs u r v had.2 gave,
    )

pub accepted_draw : {W : Type 0} (gives : W → ℕ → W → Type 0) (c : ℕ) (w : W) (rs : List ℕ) (u : W) (r : ℕ) (v : W)
    (n : ℕ) → c ≢ 0 → Rejects gives c w rs u n → n < 128 → r < 4294967296 → gives u r v →
    true ≡ nat_le (4294967296 % c) (c * r % 4294967296) → Draws gives c w rs (c * r / 4294967296) v
accepted_draw gives c w rs u r v n some had few small gave accepted = record {
  few = subst (λ m. m < 128) (sym had.0) few;
  rejects = had.1;
  word = r;
  is_word = small;
  accepted = rw (ne_eqb c 0 some) (sym accepted);
  takes = takes_more gives w rs u r v had.2 gave;
  answers = rw (ne_eqb c 0 some) refl;
}

pub takes_append : {W : Type 0} (gives : W → ℕ → W → Type 0) (w : W) (xs : List ℕ) (u : W) (ys : List ℕ) (v : W) →
    Takes gives w xs u → Takes gives u ys v → Takes gives w (xs ++ ys) v
takes_append gives w [] u ys v t s = subst (λ x. Takes gives x ys v) (sym t) s
takes_append gives w (x ∷ xs) u ys v t s = (t.0, t.1, takes_append gives t.0 xs u ys v t.2 s)
