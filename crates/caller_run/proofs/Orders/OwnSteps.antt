-- The steps of a caller as the host of a call with acts inside. The caller made some of these steps itself, and the
-- acts at the points made the others.
use Rattle.std.proofs.Common.{◌≡◌, ℕ, ◌+◌, Bool, true, false, List, [], ◌∷◌, ◌++◌, length, map, refl, sym, ap, ◌∙◌, subst, arith, append_assoc, append-nil}
use Rattle.std.specs.Prelude.{MatchBool, ⊤}
use Rattle.std.proofs.lemmas.List.{append_cancel_left}
use Rattle.key_names.specs.declared.names.Step.{Step}
use Rattle.key_names.specs.declared.names.Step.TheVariants.{Look}
use Rattle.key_names.specs.declared.point.Point.{Point}
use Rattle.key_names.specs.Kernel.Flags.{is_bad}
use Rattle.key_names.specs.Callers.History.{is_mark}
use Rattle.key_names.specs.Kernel.Vgetrandom.{SystemAnswer, HostStep, publishes, system_call, at_point}
use Rattle.lane_table.specs.declared.view.View.{View}
use Rattle.lane_table.specs.Advances.{MadeStep, looked, step_of}
use Rattle.vdso_state.specs.Host.{DoesAll}
use Rattle.rng_core.specs.declared.vdso.attempt.Attempt.{Attempt}
use Rattle.rng_core.specs.declared.vdso.attempt.Attempt.TheVariants.{First, Later}
use Rattle.rng_core.specs.declared.setting.Setting.{Setting}
use Rattle.rng_core.specs.Traces.{Moment, TraceRecords, BeginsWithLook}
use Rattle.rng_core.specs.Acts.{Ask, ActOutcome, ActsAt}
use Rattle.rng_core.specs.Acting.{attempt_at, is_first, acting, act_conform, ActConform, ActPublished, ActAnswered, ActPassed}
use Rattle.caller_run.specs.Items.{Item, items_from}
use Rattle.caller_run.proofs.Orders.PartItems.{Part, part_nothing, part_then, part_went, items_append}
use Rattle.caller_run.proofs.Events.ActSteps.{Apart, Untouched, act_items, untouched_items, acts_part, acts_elsewhere}

-- a spot in a vgetrandom call: the pass's view, the steps so far, and the outcomes of the acts
pub record Spot : Type 0 where
  pub moment : Moment
  pub outcomes : List ActOutcome

abbrev pub view_at : Spot → View
view_at s = s.moment.view

abbrev pub spot : ActConform → Spot
spot t = record { moment = t.core.moment; outcomes = t.outcomes }

-- in these steps no act runs: each point in them belongs to a later attempt than the first
abbrev pub Quiet : Attempt → List HostStep → Type 0
Quiet attempt [] = ⊤
Quiet attempt (publishes g ∷ steps) = Quiet attempt steps
Quiet attempt (system_call n flags answer ∷ steps) = Quiet attempt steps
Quiet attempt (at_point point wiped ∷ steps) =
    (is_first (attempt_at attempt point) ≡ false) × Quiet (attempt_at attempt point) steps

pub later_quiet : (steps : List HostStep) → Quiet Later steps
later_quiet [] = tt
later_quiet (publishes g ∷ steps) = later_quiet steps
later_quiet (system_call n flags answer ∷ steps) = later_quiet steps
later_quiet (at_point point wiped ∷ steps) = (refl, later_quiet steps)

-- if the caller itself makes any of these steps, the first step that it makes is a look
abbrev pub LooksFirst : List HostStep → Type 0
LooksFirst [] = ⊤
LooksFirst (publishes g ∷ steps) = ⊤
LooksFirst (system_call n flags answer ∷ steps) = is_bad flags ≡ false
LooksFirst (at_point point wiped ∷ steps) = LooksFirst steps

abbrev pub BeginsUnmarked : List Item → Type 0
BeginsUnmarked [] = ⊤
BeginsUnmarked (item ∷ items) = is_mark item.step ≡ false

module _ (set : Setting) (asks : List Ask) where
  abbrev pub at : Attempt → Spot → ActConform
  at attempt s = act_conform (record { set = set; moment = s.moment }) attempt asks s.outcomes

  -- the items of the caller's own line up to the spot s
  abbrev pub line_of : Spot → List Item
  line_of s = items_from set.event 0 s.moment.steps

  abbrev pub items_at : Spot → Point → List Item
  items_at s p = act_items set asks s.outcomes p

  -- One step of the caller as the host of its call

  is_at : (t : ActConform) (attempt : Attempt) → t.core.set ≡ set → t.attempt ≡ attempt → t.asks ≡ asks →
      t ≡ at attempt (spot t)
  is_at t attempt a b c = λ i. act_conform (record { set = a i; moment = t.core.moment }) (b i) (c i) t.outcomes

  abbrev pub Goes : (ActConform → Type 0) → Attempt → List HostStep → ActConform → Type 0
  Goes P attempt steps last = (t : Spot) × P (at attempt t) × DoesAll acting (at attempt t) steps last

  goes : (P : ActConform → Type 0) (attempt : Attempt) (steps : List HostStep) (t last : ActConform) → t.core.set ≡ set →
      t.attempt ≡ attempt → t.asks ≡ asks → P t → DoesAll acting t steps last → Goes P attempt steps last
  goes P attempt steps t last a b c p does = (
    spot t,
    subst P (is_at t attempt a b c) p,
    subst (λ (z : ActConform). DoesAll acting z steps last) (is_at t attempt a b c) does,
  )

  module _ (attempt : Attempt) (s : Spot) (steps : List HostStep) (last : ActConform) where
    pub goes_published : (g : ℕ) → DoesAll acting (at attempt s) (publishes g ∷ steps) last →
        Goes (λ t. ActPublished (at attempt s) g t) attempt steps last
    goes_published g does =
        goes (λ t. ActPublished (at attempt s) g t) attempt steps does.0 last does.1.core.same does.1.acts.attempt
        does.1.acts.asks does.1 does.2

    pub goes_answered : (n flags : ℕ) (answer : SystemAnswer) →
        DoesAll acting (at attempt s) (system_call n flags answer ∷ steps) last →
        Goes (λ t. ActAnswered (at attempt s) n flags answer t) attempt steps last
    goes_answered n flags answer does =
        goes (λ t. ActAnswered (at attempt s) n flags answer t) attempt steps does.0 last does.1.core.same
        does.1.acts.attempt
        does.1.acts.asks does.1 does.2

    pub goes_passed : (point : Point) (wiped : Bool) →
        DoesAll acting (at attempt s) (at_point point wiped ∷ steps) last →
        Goes (λ t. ActPassed (at attempt s) point wiped t) (attempt_at attempt point) steps last
    goes_passed point wiped does =
        goes (λ t. ActPassed (at attempt s) point wiped t) (attempt_at attempt point) steps does.0 last
        does.1.set does.1.attempt does.1.asks does.1 does.2

  -- Steps of the caller's own line

  -- from the spot s to the spot t the caller appended `items` to its own line, and the outcomes of the acts did not
  -- change
  pub record OwnSteps (s t : Spot) (items : List Item) : Type 0 where
    pub line : line_of t ≡ line_of s ++ items
    pub part : Part set.caller (view_at s) (view_at t) items
    pub outcomes : t.outcomes ≡ s.outcomes

  pub own_nothing : (s t : Spot) → t ≡ s → OwnSteps s t []
  own_nothing s t same = subst (λ (z : Spot). OwnSteps s z []) (sym same) (record {
    line = sym (append-nil (line_of s));
    part = part_nothing set.caller (view_at s) (view_at s) refl;
    outcomes = refl;
  })

  pub own_then : (s t u : Spot) (xs ys : List Item) → OwnSteps s t xs → OwnSteps t u ys → OwnSteps s u (xs ++ ys)
  own_then s t u xs ys a b = record {
    line = b.line ∙ ap (λ (l : List Item). l ++ ys) a.line ∙ append_assoc (line_of s) xs ys;
    part = part_then set.caller (view_at s) (view_at t) (view_at u) xs ys a.part b.part;
    outcomes = b.outcomes ∙ a.outcomes;
  }

  -- the items of `steps`, which follow the steps up to the spot s
  abbrev pub next_items : Spot → List Step → List Item
  next_items s steps = items_from set.event (length s.moment.steps) steps

  pub own_emitted : (s t : Spot) (made_steps : List MadeStep) → TraceRecords set s.moment t.moment made_steps →
      t.outcomes ≡ s.outcomes → OwnSteps s t (next_items s (map step_of made_steps))
  own_emitted s t made_steps recorded same =
      let e : length s.moment.steps + 0 ≡ length s.moment.steps = omega arith in record {
        line = ap (items_from set.event 0) recorded.trace ∙ items_append set.event 0 s.moment.steps (map step_of made_steps)
            ∙ ap (λ (n : ℕ). line_of s ++ items_from set.event n (map step_of made_steps)) e;
        part = part_went set.caller set.event (length s.moment.steps) (view_at s) (view_at t) made_steps recorded.went;
        outcomes = same;
      }

  pub own_look : (attempt : Attempt) (s t : Spot) (g : ℕ) (k : ActPublished (at attempt s) g (at attempt t)) →
      OwnSteps s t (next_items s (Look k.core.found ∷ []))
  own_look attempt s t g k = own_emitted s t (looked k.core.found ∷ []) k.core.recorded k.acts.outcomes

  -- from s to t the host made these steps, and no act made a step
  pub record Quietly (steps : List HostStep) (s t : Spot) : Type 0 where
    pub items : List Item
    pub own : OwnSteps s t items
    pub begins : LooksFirst steps → BeginsUnmarked items

  looks : (s : Spot) (made_steps : List MadeStep) (rest : List Item) (after : List Step) →
      after ≡ s.moment.steps ++ map step_of made_steps →
      BeginsWithLook s.moment.steps after → BeginsUnmarked (next_items s (map step_of made_steps) ++ rest)
  looks s made_steps rest after trace k =
      subst (λ (l : List Step). BeginsUnmarked (next_items s l ++ rest))
      (sym (append_cancel_left s.moment.steps (map step_of made_steps) (Look k.look ∷ k.rest) (sym trace ∙ k.is))) refl

  pub quietly : (steps : List HostStep) (attempt : Attempt) (s : Spot) (end : Attempt) (t : Spot) →
      Quiet attempt steps →
      DoesAll acting (at attempt s) steps (at end t) → Quietly steps s t
  quietly [] attempt s end t quiet does =
      record { items = []; own = own_nothing s t (ap spot (sym does)); begins = λ first. tt }
  quietly (publishes g ∷ steps) attempt s end t quiet does =
      let k = goes_published attempt s steps (at end t) g does in
      let rest = quietly steps attempt k.0 end t quiet k.2 in record {
        items = next_items s (Look k.1.core.found ∷ []) ++ rest.items;
        own = own_then s k.0 t (next_items s (Look k.1.core.found ∷ [])) rest.items (own_look attempt s k.0 g k.1)
            rest.own;
        begins = λ first. refl;
      }
  quietly (system_call n flags answer ∷ steps) attempt s end t quiet does =
      let k = goes_answered attempt s steps (at end t) n flags answer does in
      let rest = quietly steps attempt k.0 end t quiet k.2 in
      let did = k.1.core.did in record {
        items = next_items s (map step_of did.made_steps) ++ rest.items;
        own = own_then s k.0 t (next_items s (map step_of did.made_steps)) rest.items
            (own_emitted s k.0 did.made_steps did.recorded k.1.acts.outcomes) rest.own;
        begins = λ first. looks s did.made_steps rest.items k.0.moment.steps did.recorded.trace (k.1.begins first);
      }
  quietly (at_point point wiped ∷ steps) attempt s end t quiet does =
      let k = goes_passed attempt s steps (at end t) point wiped does in
      let rest = quietly steps (attempt_at attempt point) k.0 end t quiet.1 k.2 in
      record {
        items = rest.items;
        own = own_then s k.0 t [] rest.items
            (passed (is_first (attempt_at attempt point)) s k.0 point quiet.0 k.1.steps k.1.ran) rest.own;
        begins = rest.begins;
      }
    where
      passed : (b : Bool) (s t : Spot) (point : Point) → b ≡ false → t.moment.steps ≡ s.moment.steps →
          MatchBool b (ActsAt set point asks (view_at s) (view_at t) s.outcomes t.outcomes)
          ((t.outcomes ≡ s.outcomes) × (view_at t ≡ view_at s)) → OwnSteps s t []
      passed true s t point off same k = absurd (cc off)
      passed false s t point off same k = record {
        line = ap (items_from set.event 0) same ∙ sym (append-nil (line_of s));
        part = part_nothing set.caller (view_at s) (view_at t) k.1;
        outcomes = k.0;
      }

  -- Steps that the acts make at a point

  -- from s to t the acts at the point made their steps, if they made any; the caller's own line and all other acts stay
  -- as they were
  pub record Reached (p : Point) (s t : Spot) : Type 0 where
    pub line : line_of t ≡ line_of s
    pub part : Untouched p asks s.outcomes → Part set.caller (view_at s) (view_at t) (items_at t p)
    pub elsewhere : (q : Point) → Apart p q →
        (items_at t q ≡ items_at s q) × (Untouched q asks s.outcomes → Untouched q asks t.outcomes)

  pub reached_not : (p : Point) (s : Spot) → Reached p s s
  reached_not p s = record {
    line = refl;
    part = λ untouched.
        subst (λ (l : List Item). Part set.caller (view_at s) (view_at s) l)
        (sym (untouched_items set p asks s.outcomes untouched)) (part_nothing set.caller (view_at s) (view_at s) refl);
    elsewhere = λ q other. (refl, λ u. u);
  }

  pub reached_first : (attempt : Attempt) (s t : Spot) (point : Point) (wiped : Bool) →
      ActPassed (at attempt s) point wiped (at First t) → Reached point s t
  reached_first attempt s t point wiped k = record {
    line = ap (items_from set.event 0) k.steps;
    part = λ untouched. acts_part set point asks (view_at s) (view_at t) s.outcomes t.outcomes k.ran untouched;
    elsewhere = λ q other. acts_elsewhere set point q other asks (view_at s) (view_at t) s.outcomes t.outcomes k.ran;
  }
