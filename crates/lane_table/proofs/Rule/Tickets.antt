-- Suppose that all tickets are in a range, that there are as many tickets as numbers in the range, and that each ticket
-- belongs to one pass. Then every number of the range is a ticket.
use Rattle.std.proofs.Common.{◌≡◌, ◌≢◌, ◌⊎◌, ℕ, zero, suc, ◌+◌, ◌<◌, ◌≤◌, List, [], ◌∷◌, ◌++◌, length, set, sym, refl, ◌∙◌, subst, inl, inr, ⊎_elim, arith}
use Rattle.std.specs.List.{sum_by}
use Rattle.std.proofs.lemmas.List.Sums.{sum_by_push}
use mathlib.Core.Option.{some, some-injective, some-ne-none}
use mathlib.Core.Logic.{dite}
use native.Mathlib.Decide.{ℕ_discrete}
use lib.ListN.{get_elem?}
use Rattle.atomic_table.proofs.Lists.{at_set}
use Rattle.lane_table.specs.declared.view.LaneView.{LaneView}
use Rattle.lane_table.specs.declared.view.TicketStage.{TicketStage}
use Rattle.lane_table.specs.declared.view.TicketStage.TheVariants.{Away, Queued, Holding}
use Rattle.lane_table.specs.WorldRule.{blank, has_ticket}
use Rattle.lane_table.specs.RuleLaws.{HasTicket}
use Rattle.lane_table.proofs.Lists.Lists.{all_zero, at_push, sum_at_set}

has_or_not : (g : TicketStage) (t : ℕ) → HasTicket g t ⊎ ¬ HasTicket g t
has_or_not Away t = inr (λ h. h)
has_or_not (Queued u) t = dite (ℕ_discrete u t) (λ e. inl e) (λ ne. inr ne)
has_or_not (Holding u) t = dite (ℕ_discrete u t) (λ e. inl e) (λ ne. inr ne)

has_small : (g : TicketStage) → has_ticket g ≤ 1
has_small Away = omega arith
has_small (Queued u) = omega arith
has_small (Holding u) = omega arith

has_none : (g : TicketStage) → ((t : ℕ) → ¬ HasTicket g t) → has_ticket g ≡ 0
has_none Away h = refl
has_none (Queued u) h = absurd (h u refl)
has_none (Holding u) h = absurd (h u refl)

abbrev Found : ℕ → List LaneView → Type 0
Found t col = (j : ℕ) × (a : LaneView) × (get_elem? col j ≡ some a) × HasTicket a.stage t

abbrev Nobody : ℕ → List LaneView → Type 0
Nobody t col = (j : ℕ) (a : LaneView) → get_elem? col j ≡ some a → ¬ HasTicket a.stage t

nobody_more : (t : ℕ) (x : LaneView) (xs : List LaneView) → ¬ HasTicket x.stage t → Nobody t xs → Nobody t (x ∷ xs)
nobody_more t x xs lacks none' zero a e = subst (λ (z : LaneView). ¬ HasTicket z.stage t) (some-injective x a e) lacks
nobody_more t x xs lacks none' (suc j) a e = none' j a e

found_or_nobody : (t : ℕ) (col : List LaneView) → Found t col ⊎ Nobody t col
found_or_nobody t [] = inr (λ j a e. absurd (some-ne-none a (sym e)))
found_or_nobody t (x ∷ xs) = ⊎_elim (λ (h : HasTicket x.stage t). inl (0, x, refl, h))
    (λ (lacks : ¬ HasTicket x.stage t). ⊎_elim (λ (f : Found t xs). inl (suc f.0, f.1, f.2, f.3))
    (λ (none' : Nobody t xs). inr (nobody_more t x xs lacks none')) (found_or_nobody t xs)) (has_or_not x.stage t)

-- each ticket of the column is one of the `n` numbers from `lo` on
abbrev Within : ℕ → ℕ → List LaneView → Type 0
Within n lo col = (j t : ℕ) (a : LaneView) → get_elem? col j ≡ some a → HasTicket a.stage t → (lo ≤ t) × (t < lo + n)

abbrev OneEach : List LaneView → Type 0
OneEach col = (j k t : ℕ) (a b : LaneView) → get_elem? col j ≡ some a → get_elem? col k ≡ some b →
    HasTicket a.stage t → HasTicket b.stage t → j ≡ k

abbrev count_in : List LaneView → ℕ
count_in col = sum_by (λ (a : LaneView). has_ticket a.stage) col

no_blank : (a : LaneView) (t : ℕ) → blank ≡ a → ¬ HasTicket a.stage t
no_blank a t e = subst (λ (z : LaneView). ¬ HasTicket z.stage t) e (λ h. h)

module _ (col : List LaneView) (id : ℕ) where
  within_less : (n lo : ℕ) (v : LaneView) → get_elem? col id ≡ some v → HasTicket v.stage (lo + n) →
      Within (suc n) lo col → OneEach col → Within n lo (set col id blank)
  within_less n lo v at' has within one j t a e h = ⊎_elim (λ (o : (j ≡ id) × (blank ≡ a)). absurd (no_blank a t o.1 h))
      (λ (o : (j ≢ id) × (get_elem? col j ≡ some a)). let w = within j t a o.1 h in let low = w.0 in let high = w.1 in
      let ne : t ≢ lo + n = λ q. o.0 (one j id (lo + n) a v o.1 at' (subst (HasTicket a.stage) q h) has) in
      (low, omega arith)) (at_set col id j blank a e)

  one_less : OneEach col → OneEach (set col id blank)
  one_less one j k t a b e f h i = ⊎_elim (λ (o : (j ≡ id) × (blank ≡ a)). absurd (no_blank a t o.1 h))
      (λ (o : (j ≢ id) × (get_elem? col j ≡ some a)). ⊎_elim
      (λ (q : (k ≡ id) × (blank ≡ b)). absurd (no_blank b t q.1 i))
      (λ (q : (k ≢ id) × (get_elem? col k ≡ some b)). one j k t a b o.1 q.1 h i) (at_set col id k blank b f))
      (at_set col id j blank a e)

few : (n lo : ℕ) (col : List LaneView) → Within n lo col → OneEach col → count_in col ≤ n
few zero lo col within one = let e = all_zero (λ (a : LaneView). has_ticket a.stage) col
    (λ j a at'. has_none a.stage (λ t h. let w = within j t a at' h in let low = w.0 in let high = w.1 in omega arith))
    in omega arith
few (suc n) lo col within one = ⊎_elim
    (λ (f : Found (lo + n) col). let less = few n lo (set col f.0 blank)
    (within_less col f.0 n lo f.1 f.2 f.3 within one) (one_less col f.0 one) in
    let s = sum_at_set (λ (a : LaneView). has_ticket a.stage) col f.0 f.1 blank f.2 in let small =
    has_small f.1.stage in omega arith)
    (λ (none' : Nobody (lo + n) col). let less = few n lo col
    (λ j t a at' h. let w = within j t a at' h in let low = w.0 in let high = w.1 in
    let ne : t ≢ lo + n = λ q. none' j a at' (subst (HasTicket a.stage) q h) in (low, omega arith)) one in
    omega arith)
    (found_or_nobody (lo + n) col)

abbrev waiting : ℕ → LaneView
waiting t = record blank { stage = Queued t }

module _ (col : List LaneView) (t : ℕ) where
  within_more : (n lo : ℕ) → lo ≤ t → t < lo + n → Within n lo col → Within n lo (col ++ waiting t ∷ [])
  within_more n lo low high within j u a e h = ⊎_elim (λ (o : get_elem? col j ≡ some a). within j u a o h)
      (λ (o : (j ≡ length col) × (waiting t ≡ a)). subst (λ (z : ℕ). (lo ≤ z) × (z < lo + n))
      (subst (λ (z : LaneView). HasTicket z.stage u) (sym o.1) h) (low, high)) (at_push col (waiting t) a j e)

  one_more : Nobody t col → OneEach col → OneEach (col ++ waiting t ∷ [])
  one_more none' one j k u a b e f h i = ⊎_elim
      (λ (o : get_elem? col j ≡ some a). ⊎_elim (λ (q : get_elem? col k ≡ some b). one j k u a b o q h i)
      (λ (q : (k ≡ length col) × (waiting t ≡ b)). let same : t ≡ u = subst (λ (z : LaneView). HasTicket z.stage u)
      (sym q.1) i in absurd (none' j a o (subst (HasTicket a.stage) (sym same) h))) (at_push col (waiting t) b k f))
      (λ (o : (j ≡ length col) × (waiting t ≡ a)). let same : t ≡ u = subst (λ (z : LaneView). HasTicket z.stage u)
      (sym o.1) h in
      ⊎_elim (λ (q : get_elem? col k ≡ some b). absurd (none' k b q (subst (HasTicket b.stage) (sym same) i)))
      (λ (q : (k ≡ length col) × (waiting t ≡ b)). o.0 ∙ sym q.0) (at_push col (waiting t) b k f))
      (at_push col (waiting t) a j e)

pub each_found : (n lo t : ℕ) (col : List LaneView) → Within n lo col → OneEach col → count_in col ≡ n → lo ≤ t →
    t < lo + n → Found t col
each_found n lo t col within one full low high = ⊎_elim (λ (f : Found t col). f)
    (λ (none' : Nobody t col). let more = few n lo (col ++ waiting t ∷ []) (within_more col t n lo low high within)
    (one_more col t none' one) in
    let s = sum_by_push (λ (a : LaneView). has_ticket a.stage) col (waiting t) in absurd (omega arith))
    (found_or_nobody t col)
