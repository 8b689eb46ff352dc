-- The state of a shuffle from one draw to the next, as the loop's invariant describes it.
use Rattle.std.proofs.Common.{◌≡◌, ◌<◌, ◌≤◌, ◌+◌, ◌-◌, ◌*◌, ◌%◌, ℕ, List, [], ◌∷◌, ◌++◌, length, refl, ap, sym, ◌∙◌, subst, arith, length-append, true≢false}
use Rattle.std.specs.List.{AllByRecursion, swap}
use Rattle.std.specs.List.Sorted.{IsPermutation}
use Rattle.std.proofs.Math.Dec.{leb-zero}
use Rattle.std.proofs.lemmas.List.Sorted.{IsPermutation-refl, IsPermutation-trans}
use Rattle.draw_below.specs.Draws.{Draws, IsRejected}
use Rattle.draw_below.specs.Orders.{AreDraws, DrawsEach, Shuffles, exchanged}

drawn_more : {W : Type 0} (gives : W → ℕ → W → Type 0) (last : ℕ) (w : W) (ds : List ℕ) (u : W) (c d : ℕ)
    (rejected : List ℕ) (v : W) → last - length ds + 1 ≡ c → DrawsEach gives last w ds u →
    Draws gives c u rejected d v → DrawsEach gives last w (ds ++ d ∷ []) v
drawn_more gives last w [] u c d rejected v is drawn next = (
  v,
  rejected,
  subst (λ x. Draws gives (last + 1) x rejected d v) (sym drawn)
      (subst (λ n. Draws gives n u rejected d v) (sym is ∙ omega arith) next),
  refl,
)
drawn_more gives last w (e ∷ ds) u c d rejected v is drawn next =
    (drawn.0, drawn.1, drawn.2, drawn_more gives (last - 1) drawn.0 ds u c d rejected v (omega arith) drawn.3 next)

draws_more : (last : ℕ) (ds : List ℕ) (d : ℕ) → d + length ds ≤ last → AreDraws last ds → AreDraws last (ds ++ d ∷ [])
draws_more last [] d low drawn = (omega arith, tt)
draws_more last (e ∷ ds) d low drawn = (drawn.0, draws_more (last - 1) ds d (omega arith) drawn.1)

exchanged_more : (last : ℕ) (ds : List ℕ) (d : ℕ) (xs : List ℕ) →
    exchanged last (ds ++ d ∷ []) xs ≡ swap (exchanged last ds xs) (last - length ds) d
exchanged_more last [] d xs = ap (λ n. swap xs n d) (omega arith)
exchanged_more last (e ∷ ds) d xs =
    exchanged_more (last - 1) ds d (swap xs last e)
    ∙ ap (λ n. swap (exchanged (last - 1) ds (swap xs last e)) n d) (omega arith)

-- for the bound 2 every word is accepted, so a list `rs` of rejected words is empty
none_rejected : (rs : List ℕ) → AllByRecursion (IsRejected 2) rs → rs ≡ []
none_rejected [] all = refl
none_rejected (r ∷ rs) all = absurd (true≢false (sym (leb-zero (2 * r % 4294967296)) ∙ all.0))

-- the invariant of a shuffle: `done` is one more than the number of draws so far, and `rejected` has the words that the
-- last draw rejected
abbrev pub IsSoFar : {W : Type 0} → (W → ℕ → W → Type 0) → List ℕ → W → List ℕ → W → List ℕ → ℕ → Type 0
IsSoFar gives before w now u rejected done =
    (ds : List ℕ) × (length ds + 1 ≡ done) × (length ds ≤ length before - 1) × Shuffles gives before w ds now u
    × IsPermutation before now × AllByRecursion (IsRejected (length before - done + 2)) rejected

pub start : {W : Type 0} (gives : W → ℕ → W → Type 0) (before : List ℕ) (w : W) (rejected : List ℕ) → rejected ≡ [] →
    IsSoFar gives before w before w rejected 1
start gives before w rejected none = (
  [],
  refl,
  omega arith,
  record { drawn = refl; none_above = tt; exchanges = refl },
  IsPermutation-refl before,
  subst (AllByRecursion (IsRejected (length before - 1 + 2))) (sym none) tt,
)

pub one_more_exchange : {W : Type 0} (gives : W → ℕ → W → Type 0) (before : List ℕ) (w : W) (now : List ℕ) (u : W)
    (earlier : List ℕ) (done d : ℕ) (rejected : List ℕ) (v : W) (next : List ℕ) → done < length before →
    IsSoFar gives before w now u earlier done → Draws gives (length before - done + 1) u rejected d v →
    d < length before - done + 1 → next ≡ swap now (length before - done) d → IsPermutation now next →
    IsSoFar gives before w next v rejected (done + 1)
one_more_exchange gives before w now u earlier done d rejected v next more had draw low is moved =
    let ds = had.0 in
    let n : length ds + 1 ≡ done = had.1 in
    let place : length before - 1 - length ds ≡ length before - done = omega arith in
    let longer = length-append ds (d ∷ []) in (
      ds ++ d ∷ [],
      ap (λ m. m + 1) (longer ∙ n),
      omega arith,
      record {
        drawn = drawn_more gives (length before - 1) w ds u (length before - done + 1) d rejected v
            (ap (λ m. m + 1) place) had.3.drawn draw;
        none_above = draws_more (length before - 1) ds d (omega arith) had.3.none_above;
        exchanges = is ∙ ap (λ l. swap l (length before - done) d) had.3.exchanges
            ∙ ap (λ m. swap (exchanged (length before - 1) ds before) m d) (sym place)
            ∙ sym (exchanged_more (length before - 1) ds d before);
      },
      IsPermutation-trans before now next had.4 moved,
      subst (λ c. AllByRecursion (IsRejected c) rejected) (omega arith) draw.rejects,
    )

pub whole : {W : Type 0} (gives : W → ℕ → W → Type 0) (before : List ℕ) (w : W) (now : List ℕ) (u : W)
    (rejected : List ℕ) (done : ℕ) → IsSoFar gives before w now u rejected done → length before ≤ done →
    (ds : List ℕ) × (length ds ≡ length before - 1) × Shuffles gives before w ds now u × (rejected ≡ [])
whole gives before w now u rejected done had end =
    let n : length had.0 + 1 ≡ done = had.1 in
    let two : length before - done + 2 ≡ 2 = omega arith in (
      had.0,
      omega (arith, had.2),
      had.3,
      none_rejected rejected (subst (λ c. AllByRecursion (IsRejected c) rejected) two had.5),
    )
