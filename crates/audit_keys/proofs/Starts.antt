-- The stamp at a caller's start is the greatest of the stamp at its parent's start and the stamps of the parent's own
-- visits before the fork.
use Rattle.std.proofs.Common.{◌≡◌, ℕ, zero, suc, ◌+◌, ◌<◌, ◌≤◌, Option, Some, None, List, [], ◌∷◌, ◌++◌, inl, inr, refl, sym, ap, ◌∙◌, arith, append_assoc, length, get_or, take}
use Rattle.std.specs.Prelude.{map, slice_get, unwrap_or}
use Rattle.std.specs.Global.{Vec}
use Rattle.std.proofs.lemmas.Bool.{cases_lt}
use Rattle.std.proofs.lemmas.List.{length-map}
use Rattle.std.proofs.Math.Seq.{take-nil}
use Rattle.key_names.specs.declared.names.Step.{Step}
use Rattle.key_names.specs.Lanes.Book.{list_at}
use Rattle.key_names.specs.Callers.Calls.{Call, Parent, parent_from}
use Rattle.key_names.specs.Callers.History.{ancestors_steps, inherited_steps, calls_steps, through_visit}
use Rattle.key_names.specs.Callers.CallerOrders.{start_of}
use Rattle.key_names.proofs.History.CallerOrders.{start_is_a_front, long_ancestors}
use Rattle.key_names.proofs.Lists.ListFacts.{list_beyond}
use Rattle.judge_lines.specs.declared.order.Fork.{Fork}
use Rattle.judge_lines.specs.Orders.{all_forks, front_in}
use Rattle.judge_lines.proofs.Carried.{get_front, get_last}
use Rattle.judge_lines.proofs.Forks.{AtParent, at_parent, steps_before}
use Rattle.audit_keys.specs.Stamps.{latest_of, start_stamp}
use Rattle.audit_keys.proofs.Latest.{latest-append}

-- `owns` has at each caller's number the own steps of that caller
pub own_kept : (owns : List (Vec Step)) (callers : List (List Call)) (c : ℕ) (steps : Vec Step) →
    map (λ own. own.items) owns ≡ map calls_steps callers → c < length owns → steps ≡ get_or owns c steps →
    steps.items ≡ calls_steps (list_at callers c)
own_kept owns [] c steps e low is = absurd (let n : length (map (λ (own : Vec Step). own.items) owns) ≡ 0 = ap length e in omega (arith, length-map owns (λ (own : Vec Step). own.items)))
own_kept [] (calls ∷ callers) c steps e low is = absurd (omega arith)
own_kept (o ∷ owns) (calls ∷ callers) zero steps e low is = let h : o.items ≡ calls_steps calls = cc in ap (λ (x : Vec Step). x.items) is ∙ h
own_kept (o ∷ owns) (calls ∷ callers) (suc c) steps e low is =
    let t : map (λ (own : Vec Step). own.items) owns ≡ map calls_steps callers = cc in
    own_kept owns callers c steps t (omega arith) is

pub owns_long : (owns : List (Vec Step)) (callers : List (List Call)) →
    map (λ own. own.items) owns ≡ map calls_steps callers → length callers ≡ length owns
owns_long owns callers e =
    sym (length-map callers calls_steps) ∙ sym (ap length e) ∙ length-map owns (λ (own : Vec Step). own.items)

-- the stamp at the start of the caller that `fork` makes, or 0 if there is no fork
abbrev pub start_from : (ℕ → ℕ) → List (List Call) → Option Fork → ℕ
start_from starts callers None = 0
start_from starts callers (Some fork) =
    latest_of (starts fork.parent) (take fork.steps (calls_steps (list_at callers fork.parent)))

module _ (starts : ℕ → ℕ) (callers : List (List Call)) (c : ℕ)
    (known : (p : ℕ) → p < c → starts p ≡ start_stamp callers p) (unknown : (p : ℕ) → c ≤ p → starts p ≡ 0) where
  after_parent : (parent : Parent) → parent_from c 0 callers ≡ Some parent →
      latest_of 0 (start_of callers c) ≡ latest_of (starts parent.caller) (steps_before parent.fork)
  after_parent parent is = elim (cases_lt p c) [
    | inl low ↦ ap (latest_of 0) (start_is_a_front callers c parent is low
        ∙ append_assoc (start_of callers p) (calls_steps parent.fork.before) (through_visit parent.fork.line.steps))
        ∙ latest-append 0 (start_of callers p) (steps_before parent.fork)
        ∙ ap (λ s. latest_of s (steps_before parent.fork)) (sym (known p low))
    | inr high ↦ ap (λ o. latest_of 0 (inherited_steps (ancestors_steps callers c) o)) is
        ∙ ap (λ (s : List Step).
        latest_of 0 (s ++ calls_steps parent.fork.before ++ through_visit parent.fork.line.steps))
        (list_beyond (ancestors_steps callers c) p (omega (arith, long_ancestors callers c)))
        ∙ ap (λ s. latest_of s (steps_before parent.fork)) (sym (unknown p high))
  ]
    where
      p : ℕ
      p = parent.caller

  pub start_is : start_from starts callers (front_in c (all_forks 0 callers)) ≡ start_stamp callers c
  start_is = by (parent_from c 0 callers) refl (at_parent c 0 callers)
    where
      by : (o : Option Parent) → parent_from c 0 callers ≡ o → AtParent c 0 callers o →
          start_from starts callers (front_in c (all_forks 0 callers)) ≡ start_stamp callers c
      by None is at =
          ap (start_from starts callers) at
          ∙ sym (ap (λ o. latest_of 0 (inherited_steps (ancestors_steps callers c) o)) is)
      by (Some parent) is f =
          let fork_is : f.fork.parent ≡ parent.caller = f.parent_is ∙ sym f.caller in
          let k_is : f.fork.parent ≡ f.k = (let e = f.parent_is in omega arith) in
          ap (start_from starts callers) f.here
          ∙ ap (λ p. latest_of (starts p) (take f.fork.steps (calls_steps (list_at callers f.fork.parent)))) fork_is
          ∙ ap (λ k. latest_of (starts parent.caller) (take f.fork.steps (calls_steps (list_at callers k)))) k_is
          ∙ ap (λ n. latest_of (starts parent.caller) (take n (calls_steps (list_at callers f.k)))) f.steps
          ∙ ap (latest_of (starts parent.caller)) f.front ∙ sym (after_parent parent is)

-- ---- a caller's own steps ----

pub none_past : (owns : List (Vec Step)) (callers : List (List Call)) (p n : ℕ) →
    map (λ own. own.items) owns ≡ map calls_steps callers → length owns ≤ p →
    take n (calls_steps (list_at callers p)) ≡ []
none_past owns callers p n are past =
    let long = owns_long owns callers are in
    ap (λ calls. take n (calls_steps calls)) (list_beyond callers p (omega arith)) ∙ take-nil n

-- ---- the stamps at the callers' starts, one caller after another ----

pub known_more : (callers : List (List Call)) (starts : List ℕ) (x c : ℕ) → length starts ≡ c →
    ((p : ℕ) → p < c → unwrap_or (slice_get starts p) 0 ≡ start_stamp callers p) → x ≡ start_stamp callers c →
    (p : ℕ) → p < c + 1 → unwrap_or (slice_get (starts ++ x ∷ []) p) 0 ≡ start_stamp callers p
known_more callers starts x c long known is p low = elim (cases_lt p c) [
  | inl less ↦ ap (λ o. unwrap_or o 0) (get_front starts x p (omega arith)) ∙ known p less
  | inr most ↦ (let same : p ≡ c = omega arith in
      ap (λ n. unwrap_or (slice_get (starts ++ x ∷ []) n) 0) (same ∙ sym long)
      ∙ ap (λ o. unwrap_or o 0) (get_last starts x) ∙ is ∙ ap (start_stamp callers) (sym same))
]
