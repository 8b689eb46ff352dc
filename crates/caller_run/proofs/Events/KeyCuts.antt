-- `cut_rekey` cuts the steps of a vread after the system call for a new key, or at the front if the vread took no new
-- key.
use Rattle.std.proofs.Common.{◌≡◌, ℕ, suc, ◌≤◌, ◌⊎◌, inl, inr, Bool, true, false, not, Option, Some, None, List, [], ◌∷◌, ◌++◌, drop, map, refl, sym, ap, ◌∙◌, subst, arith}
use Rattle.std.specs.Prelude.{MatchBool, ◌==◌, ◌&&◌, slice_get, if◌then◌else◌}
use Rattle.std.specs.List.{AllByRecursion}
use Rattle.std.proofs.lemmas.Bool.{and_parts, eqb-true}
use Rattle.key_names.specs.declared.entries.Taken.TheVariants.{User}
use Rattle.key_names.specs.declared.names.LaneId.{LaneId}
use Rattle.key_names.specs.declared.names.LaneId.TheVariants.{Pool as PoolLane, Base as BaseLane, Cpu as CpuLane}
use Rattle.key_names.specs.declared.names.Step.{Step}
use Rattle.key_names.specs.declared.names.Step.TheVariants.{Look, Visit as Marked}
use Rattle.key_names.specs.Lanes.Book.{Lists, cpu_list}
use Rattle.key_names.specs.Callers.Calls.{Setting as CallSetting}
use Rattle.key_names.specs.Callers.Effects.{Effect, looked as look_effect, at_pool, at_base, at_cpu, nothing_there, pool_visit, base_visit, cpu_visit, effect_or, effect_at, effects_of}
use Rattle.key_names.specs.Kernel.Flags.{is_insecure}
use Rattle.key_names.specs.Callers.Forms.{CpuReadForm, WaitedInVain, Waited, ReadForm}
use Rattle.key_names.specs.Callers.History.{is_mark}
use Rattle.key_names.specs.Kernel.Vgetrandom.{SystemAnswer}
use Rattle.lane_table.specs.declared.view.Visit.{Visit}
use Rattle.lane_table.specs.declared.view.View.{View}
use Rattle.lane_table.specs.BookLists.{book_lists}
use Rattle.lane_table.specs.BookLaws.{Continues}
use Rattle.lane_table.specs.Advances.{MadeStep, looked, visited, step_of, Sees, floor}
use Rattle.rng_core.specs.declared.setting.Setting.{Setting}
use Rattle.rng_core.specs.Traces.{Moment}
use Rattle.rng_core.specs.Makes.{Makes, setting_of}
use Rattle.rng_core.specs.Hosted.{SystemCall}
use Rattle.caller_run.specs.Items.{Item, items_from, cut_items, cut_rekey}
use Rattle.caller_run.proofs.Orders.OwnSteps.{BeginsUnmarked}

-- The cut of a vread's steps after the system call for a new key

-- `steps` may be those of a system call for a new key: two steps, and then visits only, at least one
abbrev pub IsKeySteps : List Step → Type 0
IsKeySteps [] = ⊥
IsKeySteps (a ∷ []) = ⊥
IsKeySteps (a ∷ b ∷ []) = ⊥
IsKeySteps (a ∷ b ∷ c ∷ more) = (is_mark c ≡ true) × AllByRecursion (λ step. is_mark step ≡ true) more

-- `cut` has the parts `front` and `rest`
abbrev pub AreParts : List Item × List Item → List Item → List Item → Type 0
AreParts cut front rest = let parts : List Item × List Item = (front, rest) in cut ≡ parts

unmarked_cut : (rest : List Item) → BeginsUnmarked rest → AreParts (cut_items rest) [] rest
unmarked_cut [] begins = refl
unmarked_cut (item ∷ rest) begins = go (is_mark item.step) begins
  where
    go : (b : Bool) → b ≡ false →
        AreParts (if b then (item ∷ (cut_items rest).0, (cut_items rest).1) else ([], item ∷ rest)) [] (item ∷ rest)
    go true e = absurd (cc e)
    go false e = refl

marks_cut : (event n : ℕ) (steps : List Step) (rest : List Item) → AllByRecursion (λ step. is_mark step ≡ true) steps →
    BeginsUnmarked rest → AreParts (cut_items (items_from event n steps ++ rest)) (items_from event n steps) rest
marks_cut event n [] rest all begins = unmarked_cut rest begins
marks_cut event n (step ∷ steps) rest all begins =
    go (record { event = event; number = n; step = step }) (is_mark step) (items_from event (suc n) steps) all.0
    (marks_cut event (suc n) steps rest all.1 begins)
  where
    go : (item : Item) (b : Bool) (marks : List Item) → b ≡ true → AreParts (cut_items (marks ++ rest)) marks rest →
        AreParts (let cut = cut_items (marks ++ rest) in
        if b then (item ∷ cut.0, cut.1) else ([], item ∷ marks ++ rest))
        (item ∷ marks) rest
    go item true marks e parts = ap (λ (cut : List Item × List Item). (item ∷ cut.0, cut.1)) parts
    go item false marks e parts = absurd (cc e)

-- if `steps` are the steps for a new key, and `rest` does not begin with a visit, `cut_rekey` cuts between `steps` and
-- `rest`
pub key_cut : (event n : ℕ) (steps : List Step) (rest : List Item) → IsKeySteps steps → BeginsUnmarked rest →
    AreParts (cut_rekey (items_from event n steps ++ rest)) (items_from event n steps) rest
key_cut event n [] rest k begins = absurd k
key_cut event n (a ∷ []) rest k begins = absurd k
key_cut event n (a ∷ b ∷ []) rest k begins = absurd k
key_cut event n (a ∷ b ∷ c ∷ more) rest k begins =
    go (items_from event n (a ∷ b ∷ [])) (items_from event (suc (suc n)) (c ∷ more)) (is_mark c) k.0
    (marks_cut event (suc (suc n)) (c ∷ more) rest k begins)
  where
    go : (front marks : List Item) (by : Bool) → by ≡ true → AreParts (cut_items (marks ++ rest)) marks rest →
        AreParts (let cut = cut_items (marks ++ rest) in
        if by then (front ++ cut.0, cut.1) else ([], front ++ marks ++ rest))
        (front ++ marks) rest
    go front marks true e parts = ap (λ (cut : List Item × List Item). (front ++ cut.0, cut.1)) parts
    go front marks false e parts = absurd (cc e)

-- if the third of `items` is not a visit, `items` contain no steps for a new key, and the cut is at the front
pub plain_cut : (items : List Item) → BeginsUnmarked (drop 2 items) → AreParts (cut_rekey items) [] items
plain_cut [] begins = refl
plain_cut (a ∷ []) begins = refl
plain_cut (a ∷ b ∷ []) begins = refl
plain_cut (a ∷ b ∷ c ∷ items) begins = go (is_mark c.step) begins
  where
    go : (by : Bool) → by ≡ false →
        AreParts (let cut = cut_items (c ∷ items) in if by then (a ∷ b ∷ cut.0, cut.1) else ([], a ∷ b ∷ c ∷ items))
        [] (a ∷ b ∷ c ∷ items)
    go true e = absurd (cc e)
    go false e = refl

-- The steps of a system call for a new key

abbrev is_visit : Effect → Bool
is_visit (look_effect g) = false
is_visit (at_pool v) = true
is_visit (at_base v) = true
is_visit (at_cpu v) = true
is_visit nothing_there = true

visit_or : {E : Type 0} (effect : E → Effect) (o : Option E) → ((e : E) → is_visit (effect e) ≡ true) →
    is_visit (effect_or effect o) ≡ true
visit_or effect None visits = refl
visit_or effect (Some e) visits = visits e

module _ (lists : Lists) where
  visit_at : (lane : LaneId) (place : ℕ) → is_visit (effect_at lists lane place) ≡ true
  visit_at PoolLane place = visit_or (λ e. at_pool (pool_visit lists place e)) (slice_get lists.pool place) (λ e. refl)
  visit_at BaseLane place = visit_or (λ e. at_base (base_visit lists place e)) (slice_get lists.base place) (λ e. refl)
  visit_at (CpuLane c) place = visit_or (λ e. at_cpu (cpu_visit lists c place e)) (slice_get (cpu_list lists c) place)
      (λ e. refl)

  -- a step has a mark exactly if its effect is a visit
  marks_are : (steps : List Step) → map is_mark steps ≡ map is_visit (effects_of lists steps)
  marks_are [] = refl
  marks_are (Look g ∷ steps) = ap (λ (l : List Bool). false ∷ l) (marks_are steps)
  marks_are (Marked mark ∷ steps) = λ i. sym (visit_at mark.lane mark.place) i ∷ marks_are steps i

  all_marks : (steps : List Step) → AllByRecursion (λ b. b ≡ true) (map is_mark steps) →
      AllByRecursion (λ step. is_mark step ≡ true) steps
  all_marks [] all = tt
  all_marks (step ∷ steps) all = (all.0, all_marks steps all.1)

  key_marks : (steps : List Step) (more : List Bool) → map is_mark steps ≡ false ∷ false ∷ true ∷ more →
      AllByRecursion (λ b. b ≡ true) more → IsKeySteps steps
  key_marks [] more e all = absurd (cc e)
  key_marks (a ∷ []) more e all = absurd (cc e)
  key_marks (a ∷ b ∷ []) more e all = absurd (cc e)
  key_marks (a ∷ b ∷ c ∷ steps) more e all =
      let rest : map is_mark steps ≡ more = cc e in
      (cc e, all_marks steps (subst (AllByRecursion (λ b. b ≡ true)) (sym rest) all))

  -- if the effects of `steps` are a look and then a user's read of 32 bytes from a CPU, `IsKeySteps` holds for `steps`
  read_steps : (set : CallSetting) (steps : List Step) (g : ℕ) (rest : List Effect) →
      effects_of lists steps ≡ look_effect g ∷ rest → CpuReadForm set (User 32) rest → IsKeySteps steps
  read_steps set steps g rest e (inl f) =
      key_marks steps [] (marks_are steps ∙ ap (map is_visit) e
      ∙ ap (λ (l : List Effect). false ∷ map is_visit l) f.effects_are) tt
  read_steps set steps g rest e (inr f) =
      key_marks steps (true ∷ []) (marks_are steps ∙ ap (map is_visit) e
      ∙ ap (λ (l : List Effect). false ∷ map is_visit l) f.effects_are)
      (refl, tt)

  -- if some steps begin with a look, this look finds at least the generation `low`, the largest generation seen before
  -- the steps
  look_seen : (w : View) (low high g : ℕ) (rest : List Effect) (made_steps : List MadeStep) → Sees w low made_steps high →
      effects_of lists (map step_of made_steps) ≡ look_effect g ∷ rest → low ≤ g
  look_seen w low high g rest [] sees e = absurd (cc e)
  look_seen w low high g rest (looked h ∷ made_steps) sees e =
      let same : look_effect h ≡ look_effect g = cc e in let found : h ≡ g = cc same in let a = sees.0 in omega arith
  look_seen w low high g rest (visited mark entry ∷ made_steps) sees e =
      let no : true ≡ false = sym (visit_at mark.lane mark.place)
      ∙ ap (λ (l : List Effect). elim l as (λ _. Bool) [ [] ↦ true | d ∷ ds ↦ is_visit d ]) e in absurd (cc no)

-- if a generation was found before a system call for a new key, this call reads from the CPU. So `IsKeySteps` holds for
-- its steps
pub key_call : (set : Setting) (answer : SystemAnswer) (l m : Moment)
    (k : Makes (SystemCall (setting_of set) 32 0 answer) set l m)
    (lanes : ℕ) (visits : ℕ → List Visit) → Continues lanes m.view visits → 1 ≤ floor l.view →
    IsKeySteps (map step_of k.made_steps)
key_call set answer l m k lanes visits c seen =
    let lists : Lists = book_lists lanes visits [] in
    let f = (k.conforms lanes visits [] c).form in
    let above = look_seen lists m.view (floor l.view) (floor m.view) f.0 f.1 k.made_steps k.recorded.went.sees f.2 in
    go lists f.0 f.1 (omega arith) f.2 (f.0 == 0 && not (is_insecure 0)) refl f.3
  where
    no_zero : (g : ℕ) → 1 ≤ g → (g == 0 && not (is_insecure 0)) ≡ true → ⊥
    no_zero g low e = let zero_is = eqb-true g 0 (and_parts (g == 0) (not (is_insecure 0)) e).0 in absurd (omega arith)

    reads : (lists : Lists) (g : ℕ) (rest : List Effect) → 1 ≤ g →
        effects_of lists (map step_of k.made_steps) ≡ look_effect g ∷ rest →
        ReadForm (setting_of set) (User 32) g rest → IsKeySteps (map step_of k.made_steps)
    reads lists g rest low e (inl f) = let zero_is = f.0 in absurd (omega arith)
    reads lists g rest low e (inr f) = read_steps lists (setting_of set) (map step_of k.made_steps) g rest e f

    go : (lists : Lists) (g : ℕ) (rest : List Effect) → 1 ≤ g →
        effects_of lists (map step_of k.made_steps) ≡ look_effect g ∷ rest →
        (b : Bool) → (g == 0 && not (is_insecure 0)) ≡ b →
        MatchBool b (WaitedInVain rest ⊎ Waited (setting_of set) 32 rest) (ReadForm (setting_of set) (User 32) g rest) →
        IsKeySteps (map step_of k.made_steps)
    go lists g rest low e true b h = absurd (no_zero g low b)
    go lists g rest low e false b h = reads lists g rest low e h
