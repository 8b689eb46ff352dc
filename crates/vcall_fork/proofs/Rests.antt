-- The rest of a vgetrandom call after the point at which the call was stopped: the reads that the rest takes as keys,
-- the bytes that it gives, and its entries.
use Rattle.std.proofs.Common.{◌≡◌, ℕ, ◌≤◌, Bool, true, false, List, [], ◌∷◌, ◌++◌, refl, sym, subst, ap, ◌∙◌, arith, eqb-true}
use Rattle.std.specs.Prelude.{◌==◌, if◌then◌else◌}
use Rattle.std.specs.List.{fold}
use Rattle.key_names.specs.declared.entries.VEntry.{VEntry}
use Rattle.key_names.specs.declared.entries.VEntry.TheVariants.{Rekey, Blocks, Refill, Serve as Served, Wipe}
use Rattle.key_names.specs.declared.point.Point.{Point}
use Rattle.key_names.specs.declared.point.Point.TheVariants.{Start, Written, Serve, End}
use Rattle.key_names.specs.Lanes.Book.{Lists}
use Rattle.key_names.specs.Lanes.LawfulList.{LawfulFrom}
use Rattle.key_names.specs.Lanes.StateList.{NamedState, Expected, MayStart, MayRefill, MayFollow, OrderedStateList, state_start, state_step}
use Rattle.key_names.specs.Kernel.Vgetrandom.{SystemAnswer, HostStep, holds, outdated, Attempt, AfterBoth, IsAttempt, Outcome, by_system}
use Rattle.key_names.specs.Kernel.VgetrandomState.{VgetrandomState, wiped_state}
use Rattle.key_names.proofs.Vgetrandom.AskedSystem.{EndsAsked, asked, tried_asked}
use Rattle.key_names.proofs.Vgetrandom.KeyTakes.{takes, Bounded, OutcomeBounded, start_bounded, written_bounded, serve_bounded, second_bounded, system_bounded, tried_bounded}
use Rattle.key_names.proofs.Vgetrandom.StatesReplay.{Good}
use Rattle.key_names.proofs.Vgetrandom.StatesReplay as replay
use Rattle.key_names.proofs.Values.BatchNamed as batch
use Rattle.vdso_state.specs.declared.place.Place.{Place}
use Rattle.vdso_state.specs.declared.place.Turn.{Turn}
use Rattle.vdso_state.specs.declared.place.Turn.TheVariants.{First, Second}
use Rattle.vdso_state.specs.Places.{FromPoint, IfOutdated, AfterPlace}
use Rattle.key_names.specs.Kernel.Vgetrandom.{state_after_call}

-- an attempt's entries use the read at place `p` of CPU `c` as a key at most as often as the attempt's steps contain
-- that read
module _ (c p : ℕ) where
  point_bounded : (point : Point) (n from published : ℕ) (out : List ℕ) (s : VgetrandomState) (steps : List HostStep)
      (attempt : Attempt) → FromPoint point n from published out s steps attempt → Bounded c p steps attempt
  point_bounded Start n from published out s steps attempt k = start_bounded c p n from published s steps attempt k
  point_bounded Written n from published out s steps attempt k = written_bounded c p n from s steps attempt k
  point_bounded Serve n from published out s steps attempt k = serve_bounded c p n from s steps attempt k
  point_bounded End n from published out s steps attempt k = record {
    is = (let none : takes c p attempt.entries ≡ 0 = ap (λ (a : Attempt). takes c p a.entries) k.attempt_is in omega arith);
  }

  outdated_bounded : (turn : Turn) (n flags from : ℕ) (s : VgetrandomState) (steps : List HostStep) (outcome : Outcome) →
      IfOutdated turn n flags from s steps outcome → OutcomeBounded c p steps outcome
  outdated_bounded First n flags from s steps outcome k = second_bounded c p n flags from s steps outcome k
  outdated_bounded Second n flags from s steps outcome k =
      system_bounded c p n flags (state_after_call s) steps outcome k

  pub rest_bounded : (n flags : ℕ) (place : Place) (out : List ℕ) (s : VgetrandomState) (steps : List HostStep)
      (outcome : Outcome) → AfterPlace n flags place out s steps outcome → OutcomeBounded c p steps outcome
  rest_bounded n flags place out s steps outcome r =
      tried_bounded c p n flags (IfOutdated place.turn n flags)
      (FromPoint place.point n place.next_block place.published out s) steps outcome
      (λ tried attempt. point_bounded place.point n place.next_block place.published out s tried attempt)
      (λ from v rest after. outdated_bounded place.turn n flags from v rest after) r

-- if a system call ends the vgetrandom call, that system call is the last step
module _ (answer : SystemAnswer) where
  outdated_asked : (turn : Turn) (n flags from : ℕ) (s : VgetrandomState) (steps : List HostStep) (outcome : Outcome) →
      outcome.ending ≡ by_system answer → IfOutdated turn n flags from s steps outcome → EndsAsked answer steps
  outdated_asked First n flags from s steps outcome ends k =
      tried_asked answer n flags (AfterBoth n flags) (IsAttempt n from s) steps outcome
      (λ d w more last. asked answer n flags (state_after_call w) more last) ends k
  outdated_asked Second n flags from s steps outcome ends k =
      asked answer n flags (state_after_call s) steps outcome ends k

  pub rest_asked : (n flags : ℕ) (place : Place) (out : List ℕ) (s : VgetrandomState) (steps : List HostStep)
      (outcome : Outcome) → outcome.ending ≡ by_system answer → AfterPlace n flags place out s steps outcome →
      EndsAsked answer steps
  rest_asked n flags place out s steps outcome =
      tried_asked answer n flags (IfOutdated place.turn n flags)
      (FromPoint place.point n place.next_block place.published out s) steps outcome
      (λ from v rest after. outdated_asked place.turn n flags from v rest after)

-- the rest of a child's call starts on a wiped state. If that rest ends with bytes of the state, its last entries serve
-- these bytes (`OutcomeNamed`)
module _ (lists : Lists) (caller k : ℕ) where
  not_held : (g : ℕ) → 1 ≤ g → (if 0 == g then holds else outdated) ≡ holds → ⊥
  not_held g some is = go (0 == g) refl is
    where
      go : (b : Bool) → (0 == g) ≡ b → (if b then holds else outdated) ≡ holds → ⊥
      go true same held = (let zero_is : 0 ≡ g = eqb-true 0 g same in omega arith)
      go false same held = cc

  point_named : (point : Point) (n c published : ℕ) (out : List ℕ) → 1 ≤ n → (x : replay.Both lists caller k)
      (steps : List HostStep) (attempt : Attempt) → Good lists steps →
      FromPoint point n c published out wiped_state steps attempt → replay.Holds lists caller k x wiped_state →
      batch.AttemptNamed lists caller k x attempt
  point_named Start n c published out some x steps attempt good from h =
      batch.start_named lists caller k n c published some x wiped_state steps attempt good from h
  point_named Written n c published out some x steps attempt good from h =
      batch.written_named lists caller k n c some x wiped_state steps attempt good from
      (record { batch = h.batch; pos = h.pos })
  point_named Serve n c published out some x steps attempt good from h =
      batch.from_serve_named lists caller k n c some x wiped_state steps attempt good from h
  point_named End n c published out some x steps attempt good from h = λ fronts held.
      let known : 1 ≤ from.published = (subst (Good lists) from.steps_are good).0 in
      absurd (not_held from.published known (sym (ap (λ (a : Attempt). a.end) from.attempt_is) ∙ held))

  point_holds : (point : Point) (n c published : ℕ) (out : List ℕ) → 1 ≤ n → (x : replay.Both lists caller k)
      (steps : List HostStep) (attempt : Attempt) → Good lists steps →
      FromPoint point n c published out wiped_state steps attempt → replay.Holds lists caller k x wiped_state →
      replay.AttemptHolds lists caller k x attempt
  point_holds Start n c published out some x steps attempt good from h =
      replay.start_holds lists caller k n c published some x wiped_state steps attempt good from h
  point_holds Written n c published out some x steps attempt good from h =
      replay.written_holds lists caller k n c some x wiped_state steps attempt good from
      (record { batch = h.batch; pos = h.pos })
  point_holds Serve n c published out some x steps attempt good from h =
      replay.from_serve_holds lists caller k n c some x wiped_state steps attempt good from h
  point_holds End n c published out some x steps attempt good from h =
      replay.end_holds lists caller k out c x wiped_state steps attempt from h

  outdated_named : (turn : Turn) (n flags c : ℕ) → 1 ≤ n → (u : replay.Both lists caller k) (v : VgetrandomState)
      (rest : List HostStep) (later : Outcome) → Good lists rest → IfOutdated turn n flags c v rest later →
      replay.Holds lists caller k u v → batch.OutcomeNamed lists caller k u later
  outdated_named First n flags c some u v rest later good second h =
      batch.tried_named lists caller k n flags c some (AfterBoth n flags) u v rest later
      (λ w d y end last g by b. batch.system_named lists caller k n flags w (state_after_call y) end last by) good
      second h
  outdated_named Second n flags c some u v rest later good by h =
      batch.system_named lists caller k n flags u (state_after_call v) rest later by

  pub rest_named : (n flags : ℕ) (place : Place) (out : List ℕ) → 1 ≤ n → (x : replay.Both lists caller k)
      (steps : List HostStep) (outcome : Outcome) → Good lists steps →
      AfterPlace n flags place out wiped_state steps outcome → replay.Holds lists caller k x wiped_state →
      batch.OutcomeNamed lists caller k x outcome
  rest_named n flags place out some x steps outcome good r h =
      batch.rest_named lists caller k n flags (IfOutdated place.turn n flags)
      (FromPoint place.point n place.next_block place.published out wiped_state) x steps outcome
      (λ tried attempt g from. point_named place.point n place.next_block place.published out some x tried attempt g
      from h)
      (λ tried attempt g from late. point_holds place.point n place.next_block place.published out some x tried attempt g
      from h)
      (λ u c v rest later g on b. outdated_named place.turn n flags c some u v rest later g on b) good r

-- After a wipe, the list of a vgetrandom state continues like the list of a new state
module _ (caller state other : ℕ) where
  record SameTurn (s t : NamedState) : Type 0 where
    expected : s.expected ≡ t.expected
    pos : s.pos ≡ t.pos

  same_step : (s t : NamedState) (e : VEntry) → SameTurn s t →
      SameTurn (state_step caller state s e) (state_step other state t e)
  same_step s t (Rekey cpu place) k = record { expected = refl; pos = refl }
  same_step s t (Blocks from count) k = record { expected = refl; pos = k.pos }
  same_step s t (Refill from) k = record { expected = refl; pos = refl }
  same_step s t (Served pos len) k = record { expected = k.expected; pos = refl }
  same_step s t Wipe k = record { expected = refl; pos = refl }

  same_follow : (s t : NamedState) (e : VEntry) → SameTurn s t → MayFollow s e → MayFollow t e
  same_follow s t (Rekey cpu place) k may = sym k.expected ∙ may
  same_follow s t (Blocks from count) k may = subst MayStart k.expected may
  same_follow s t (Refill from) k may = subst (λ (x : Expected). MayRefill x from) k.expected may
  same_follow s t (Served pos len) k may = (sym k.expected ∙ may.0, may.1 ∙ k.pos, may.2)
  same_follow s t Wipe k may = subst MayStart k.expected may

  same_list : (s t : NamedState) (es : List VEntry) → SameTurn s t → LawfulFrom MayFollow (state_step caller state) s es →
      LawfulFrom MayFollow (state_step other state) t es
      × SameTurn (fold (state_step caller state) s es) (fold (state_step other state) t es)
  same_list s t [] k may = (tt, k)
  same_list s t (e ∷ es) k may =
      let rest = same_list (state_step caller state s e) (state_step other state t e) es (same_step s t e k) may.1 in
      ((same_follow s t e k may.0, rest.0), rest.1)

  -- if each entry of the whole list may follow those before it, the entries after the wipe may also be the list of a
  -- new state of the caller `other`
  after_wipe : (s : NamedState) (before after : List VEntry) →
      LawfulFrom MayFollow (state_step caller state) s (before ++ Wipe ∷ after) →
      LawfulFrom MayFollow (state_step other state) state_start after
      × SameTurn (fold (state_step caller state) s (before ++ Wipe ∷ after))
      (fold (state_step other state) state_start after)
  after_wipe s [] after may = same_list (state_step caller state s Wipe) state_start after
      (record { expected = refl; pos = refl }) may.1
  after_wipe s (e ∷ before) after may = after_wipe (state_step caller state s e) before after may.1

  pub child_ordered : (before after : List VEntry) → OrderedStateList caller state (before ++ Wipe ∷ after) →
      OrderedStateList other state after
  child_ordered before after ordered =
      let k = after_wipe state_start before after ordered.comes in
      record { comes = k.0; ends = sym k.1.expected ∙ ordered.ends }
