-- Each caller's own steps are checked from the value kept at the fork that made the caller. Together these checks cover
-- the orders of all callers.
use Rattle.std.proofs.Common.{◌≡◌, ℕ, Bool, true, false, suc, ◌+◌, ◌<◌, ◌≤◌, Option, Some, None, List, [], ◌∷◌, ◌++◌, length, take, drop, min, get_or, map, eq-eqb, refl, sym, subst, ap, ◌∙◌, arith, append_assoc}
use Rattle.std.specs.Prelude.{slice_get}
use Rattle.std.specs.Prelude.{◌==◌, ◌||◌}
use Rattle.std.specs.Bool.{OnTrue}
use Rattle.std.specs.List.{fold, AllByRecursion}
use Rattle.std.proofs.Math.Bool.{or-true}
use Rattle.std.proofs.lemmas.Bool.{OnTrue_at}
use Rattle.std.specs.Global.{Vec}
use mathlib.Core.Logic.{dite}
use native.Mathlib.Decide.{ℕ_discrete}
use Rattle.std.proofs.lemmas.List.{length-take, length-map, take-append-drop}
use Rattle.std.proofs.lemmas.List.Sums.{fold-append}
use Rattle.key_names.specs.declared.names.Step.{Step}
use Rattle.key_names.specs.Lanes.Book.{list_at}
use Rattle.key_names.specs.Callers.Calls.{Call, Parent, parent_from}
use Rattle.key_names.specs.Callers.History.{ancestors_steps, inherited_steps, orders_from, caller_orders, calls_steps, through_visit}
use Rattle.key_names.specs.Callers.CallerOrders.{start_of}
use Rattle.key_names.proofs.History.CallerOrders.{order_is_start_and_own, start_is_a_front}
use Rattle.key_names.proofs.Lists.ListFacts.{each_list, at_list}
use Rattle.judge_lines.specs.declared.called.CalledLines.{CalledLines}
use Rattle.judge_lines.specs.declared.order.Fork.{Fork}
use Rattle.judge_lines.specs.Called.{seen_call, seen_calls}
use Rattle.judge_lines.specs.Orders.{all_forks, front_in, is_parent_in}
use Rattle.judge_lines.specs.Along.{Along, AreAlong, begin_in, kept_at}
use Rattle.judge_lines.proofs.Carried.{get_front, along_parts, along_both}
use Rattle.judge_lines.proofs.SettingsFound.{list_found}
use Rattle.judge_lines.proofs.Forks.{AtParent, at_parent, rises, steps_before}

-- if `fork` is the first fork that makes caller c, then `fork.parent` is a caller that forks
parent_forks : (c : ℕ) (forks : List Fork) (fork : Fork) → front_in c forks ≡ Some fork →
    is_parent_in fork.parent forks ≡ true
parent_forks c [] fork is = cc
parent_forks c (first ∷ forks) fork is = by (first.child == c) refl (λ rest. parent_forks c forks fork rest)
  where
    by : (b : Bool) → (first.child == c) ≡ b →
        (front_in c forks ≡ Some fork → is_parent_in fork.parent forks ≡ true) →
        is_parent_in fork.parent (first ∷ forks) ≡ true
    by true at rest =
        let same : first ≡ fork = cc in
        ap (λ b. b || is_parent_in fork.parent forks) (eq-eqb first.parent fork.parent (ap (λ f. f.parent) same))
    by false at rest =
        let here : front_in c forks ≡ Some fork = cc in
        ap (λ b. (first.parent == fork.parent) || b) (rest here) ∙ or-true (first.parent == fork.parent)

orders_long : (ancestors : List (List Step)) (callers : List (List Call)) →
    length (orders_from ancestors callers) ≡ length callers
orders_long ancestors [] = refl
orders_long [] (calls ∷ rest) = ap suc (orders_long [] rest)
orders_long (before ∷ ancestors) (calls ∷ rest) = ap suc (orders_long ancestors rest)

module _ (after : Option ℕ → Step → Option ℕ) (May : Option ℕ → Step → Type 0) where
  module _ (callers : List (List Call)) where
    abbrev own : ℕ → List Step
    own c = calls_steps (list_at callers c)

    abbrev begun : ℕ → Option ℕ
    begun c = fold after None (start_of callers c)

    -- each step of caller c's order is allowed after the value carried to it; if c forks another caller, `kept` has the
    -- values along c's own steps
    pub record KeptOf (c : ℕ) (kept : List (Vec (Option ℕ))) : Type 0 where
      pub conforms : Along after May None (start_of callers c ++ calls_steps (list_at callers c))
      pub values : Vec (Option ℕ)
      pub here : slice_get kept c ≡ Some values
      pub along : is_parent_in c (all_forks 0 callers) ≡ true →
          AreAlong after (fold after None (start_of callers c)) (calls_steps (list_at callers c)) values.items

    -- caller c begins with the value carried along its ancestors' steps before the forks, and each of these steps is
    -- allowed after the value carried to it
    pub record Begins (c : ℕ) (kept : List (Vec (Option ℕ))) (forks : List Fork) : Type 0 where
      pub value : begin_in kept (front_in c forks) ≡ fold after None (start_of callers c)
      pub conforms : Along after May None (start_of callers c)

    module _ (c : ℕ) (kept : List (Vec (Option ℕ))) (rise : AllByRecursion (λ f. f.parent < f.child) (all_forks 0 callers))
        (each : (p : ℕ) → p < c → KeptOf p kept) where
      abbrev started : Option Parent → List Step
      started o = inherited_steps (ancestors_steps callers c) o

      -- suppose that caller c was forked after the first n own steps of its parent p. Then c begins with p's value
      -- after these n steps, and each step of c's order before c's own steps is allowed
      following : (p n : ℕ) → p < c → is_parent_in p (all_forks 0 callers) ≡ true →
          start_of callers c ≡ start_of callers p ++ take n (own p) → n ≤ length (own p) →
          (kept_at (slice_get kept p) n ≡ begun c) × Along after May None (start_of callers c)
      following p n low forks shape short =
          let k : KeptOf p kept = each p low in
          let parts : Along after May None (start_of callers p) × Along after May (begun p) (own p) =
          along_parts after May None (start_of callers p) (own p) k.conforms in
          let front : Along after May (begun p) (take n (own p)) =
          (along_parts after May (begun p) (take n (own p)) (drop n (own p))
          (subst (Along after May (begun p)) (sym (take-append-drop n (own p))) parts.1)).0 in
          let value : kept_at (slice_get kept p) n ≡ fold after (begun p) (take n (own p)) =
          rw (k.here, k.along forks n short) refl in (
            value ∙ sym (fold-append after None (start_of callers p) (take n (own p)))
                ∙ sym (ap (λ (s : List Step). fold after None s) shape),
            subst (λ (s : List Step). Along after May None s) (sym shape)
                (along_both after May None (start_of callers p) (take n (own p)) parts.0 front),
          )

      begins_at : (o : Option Parent) → parent_from c 0 callers ≡ o → AtParent c 0 callers o →
          Begins c kept (all_forks 0 callers)
      begins_at None is at =
          let none : start_of callers c ≡ [] = ap started is in record {
            value = ap (begin_in kept) at ∙ sym (ap (λ (s : List Step). fold after None s) none);
            conforms = subst (λ (s : List Step). Along after May None s) (sym none) tt;
          }
      begins_at (Some parent) is f =
          let p : ℕ = parent.caller in
          let same : f.k ≡ p = (let e = f.caller in omega arith) in
          let fork_is : f.fork.parent ≡ p = (let e = f.parent_is in omega arith) in
          let low : p < c = subst (λ n. n < c) fork_is (rises c (all_forks 0 callers) f.fork rise f.here) in
          let n : ℕ = f.fork.steps in
          let front : take n (own p) ≡ steps_before parent.fork =
          ap (λ m. take m (own p)) f.steps
          ∙ ap (λ m. take (length (steps_before parent.fork)) (own m)) (sym same) ∙ f.front in
          let shape : start_of callers c ≡ start_of callers p ++ take n (own p) =
          start_is_a_front callers c parent is low
          ∙ append_assoc (start_of callers p) (calls_steps parent.fork.before) (through_visit parent.fork.line.steps)
          ∙ ap (λ s. start_of callers p ++ s) (sym front) in
          let short : n ≤ length (own p) =
          (let e : min n (length (own p)) ≡ n =
          sym (length-take n (own p)) ∙ ap (λ (s : List Step). length s) front ∙ sym f.steps in omega arith) in
          let found : (kept_at (slice_get kept p) n ≡ begun c) × Along after May None (start_of callers c) =
          following p n low (subst (λ q. is_parent_in q (all_forks 0 callers) ≡ true) fork_is
          (parent_forks c (all_forks 0 callers) f.fork f.here)) shape short in record {
            value = ap (begin_in kept) f.here ∙ ap (λ m. kept_at (slice_get kept m) n) fork_is ∙ found.0;
            conforms = found.1;
          }

      pub begins : Begins c kept (all_forks 0 callers)
      begins = begins_at (parent_from c 0 callers) refl (at_parent c 0 callers)

    -- if `KeptOf` holds for each caller, each step of each caller's order is allowed after the value carried to it
    pub all_follow : (kept : List (Vec (Option ℕ))) → ((p : ℕ) → p < length callers → KeptOf p kept) →
        AllByRecursion (Along after May None) (caller_orders callers)
    all_follow kept each = each_list (Along after May None) (caller_orders callers) (λ c low.
        let low' : c < length callers =
        (let e : length (caller_orders callers) ≡ length callers =
        orders_long (ancestors_steps callers (length callers)) callers in omega arith) in
        subst (λ (s : List Step). Along after May None s) (sym (order_is_start_and_own callers c low')) (each c low').conforms)

    -- if all steps of all orders are allowed, then each own step of caller c is allowed after the value carried to it;
    -- the value carried to c's first own step is the value with which c begins
    pub own_follow : (c : ℕ) → c < length callers → AllByRecursion (Along after May None) (caller_orders callers) →
        Along after May (fold after None (start_of callers c)) (calls_steps (list_at callers c))
    own_follow c low all =
        let low' : c < length (caller_orders callers) =
        (let e : length (caller_orders callers) ≡ length callers =
        orders_long (ancestors_steps callers (length callers)) callers in omega arith) in
        (along_parts after May None (start_of callers c) (own c)
        (subst (λ (s : List Step). Along after May None s) (order_is_start_and_own callers c low)
        (at_list (Along after May None) (caller_orders callers) c low' all))).1

-- there are as many lists of calls as callers
pub seen_long : (callers : List (Vec CalledLines)) → length (seen_calls callers) ≡ length callers
seen_long callers = length-map callers (λ (calls : Vec CalledLines). map seen_call calls.items)

-- if `KeptOf` holds for each caller before c, it holds for c
module _ (after : Option ℕ → Step → Option ℕ) (May : Option ℕ → Step → Type 0) (called : List (Vec CalledLines)) where
  abbrev callers : List (List Call)
  callers = seen_calls called

  module _ (forks : List Fork) (kept : List (Vec (Option ℕ))) (c : ℕ) (calls : Vec CalledLines) (start : Option ℕ)
      (forks_are : forks ≡ all_forks 0 (seen_calls called)) (above : AllByRecursion (λ f. f.parent < f.child) forks)
      (low : c < length called) (calls_are : calls ≡ get_or called c calls)
      (each : (p : ℕ) → p < c → KeptOf after May (seen_calls called) p kept)
      (start_is : start ≡ begin_in kept (front_in c forks)) where
    abbrev ours : List Step
    ours = calls_steps (map seen_call calls.items)

    steps_are : ours ≡ calls_steps (list_at callers c)
    steps_are = ap calls_steps (list_found called c calls low calls_are)

    among : c < length callers
    among = let e : length callers ≡ length called = seen_long called in omega arith

    rise : AllByRecursion (λ f. f.parent < f.child) (all_forks 0 callers)
    rise = subst (λ (fs : List Fork). AllByRecursion (λ f. f.parent < f.child) fs) forks_are above

    all_begins : Begins after May callers c kept (all_forks 0 callers)
    all_begins = begins after May callers c kept rise each

    begun_at : start ≡ fold after None (start_of callers c)
    begun_at = start_is ∙ ap (λ (fs : List Fork). begin_in kept (front_in c fs)) forks_are ∙ all_begins.value

    pub must_follow : AllByRecursion (Along after May None) (caller_orders callers) → Along after May start ours
    must_follow all = subst (λ v. Along after May v ours) (sym begun_at)
        (subst (Along after May (fold after None (start_of callers c))) (sym steps_are)
        (own_follow after May callers c among all))

    pub now_kept : (values : Vec (Option ℕ)) (more : List (Vec (Option ℕ))) → slice_get more c ≡ Some values →
        Along after May start ours → OnTrue (is_parent_in c forks) (AreAlong after start ours values.items) →
        KeptOf after May callers c more
    now_kept values more here follow along = record {
      conforms = along_both after May None (start_of callers c) (calls_steps (list_at callers c)) all_begins.conforms
          (subst (Along after May (fold after None (start_of callers c))) steps_are
          (subst (λ v. Along after May v ours) begun_at follow));
      values = values;
      here = here;
      along = λ parent. subst (λ (steps : List Step).
          AreAlong after (fold after None (start_of callers c)) steps values.items) steps_are
          (subst (λ v. AreAlong after v ours values.items) begun_at
          (OnTrue_at (ap (is_parent_in c) forks_are ∙ parent) along));
    }

  pub still_kept : (p : ℕ) (kept : List (Vec (Option ℕ))) (one : Vec (Option ℕ)) → p < length kept →
      KeptOf after May callers p kept → KeptOf after May callers p (kept ++ one ∷ [])
  still_kept p kept one low k = record {
    conforms = k.conforms;
    values = k.values;
    here = get_front kept one p low ∙ k.here;
    along = k.along;
  }

  pub kept_more_callers : (c : ℕ) (kept : List (Vec (Option ℕ))) (one : Vec (Option ℕ)) → length kept ≡ c →
      ((p : ℕ) → p < c → KeptOf after May callers p kept) → KeptOf after May callers c (kept ++ one ∷ []) →
      (p : ℕ) → p < c + 1 → KeptOf after May callers p (kept ++ one ∷ [])
  kept_more_callers c kept one long each here p low = dite (ℕ_discrete p c)
      (λ e. subst (λ k. KeptOf after May callers k (kept ++ one ∷ [])) (sym e) here)
      (λ ne. still_kept p kept one (omega arith) (each p (omega arith)))
