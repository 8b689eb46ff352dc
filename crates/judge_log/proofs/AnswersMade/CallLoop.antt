-- The loop over a caller's calls: after n rounds, the answers and data of the first n calls are noted.
use Rattle.std.proofs.Common.{◌≡◌, ℕ, zero, suc, ◌+◌, ◌<◌, min, List, [], ◌∷◌, ◌++◌, length, get_or, take, drop, refl, sym, subst, ap, ◌∙◌, arith, append_assoc}
use Rattle.std.proofs.lemmas.List.{append-nil, drop_more, length-take-le}
use Rattle.key_names.specs.Callers.Calls.{Setting, Call, alone, vread_call, unbound, ending}
use Rattle.std.proofs.lemmas.Option.{same_Some}
use Rattle.judge_log.specs.declared.kept.Lists.{Lists as KeptLists}
use Rattle.judge_log.specs.declared.said.MadeLine.{MadeLine}
use Rattle.judge_log.specs.Writes.{Write, Written}
use Rattle.judge_log.specs.CallSays.{VStates, first_states, with_state, CallSaid, CallsSaid}
use Rattle.judge_log.proofs.AnswersMade.Going.{taken_more}

module _ {Noted : Type 0} (IsNoted : ℕ → MadeLine → Noted → Type 0) where
  pub written_more : (writes more : List Write) (old mid new : List Noted) → Written IsNoted writes old mid →
      Written IsNoted more mid new → Written IsNoted (writes ++ more) old new
  written_more [] more old mid new is later = subst (λ notes. Written IsNoted more notes new) is later
  written_more (w ∷ writes) more old mid new put later =
      (put.0, put.1, written_more writes more put.0 mid new put.2 later)

module _ (kept : KeptLists) where
  -- a call, its setting and the vgetrandom states before it determine the vgetrandom states after it
  pub determined : (set : Setting) (call : Call) (s t u : VStates) (writes more : List Write) →
      CallSaid kept set call s t writes → CallSaid kept set call s u more → t ≡ u
  determined set (alone event line) s t u writes more one other = one.new_is ∙ sym other.new_is
  determined set (vread_call n flags line acts) s t u writes more one other =
      one.new_is ∙ ap (λ f. with_state s f.state) (same_Some one.f other.f (sym one.follows ∙ other.follows))
      ∙ sym other.new_is
  determined set (unbound bound) s t u writes more one other = one.new_is ∙ sym other.new_is
  determined set (ending line) s t u writes more one other = one.new_is ∙ sym other.new_is

  snoc : (sets : List Setting) (calls : List Call) (set : Setting) (call : Call) (s mid t : VStates)
      (writes first : List Write) → length sets ≡ length calls → CallsSaid kept sets calls s mid writes →
      CallSaid kept set call mid t first → CallsSaid kept (sets ++ set ∷ []) (calls ++ call ∷ []) s t (writes ++ first)
  snoc [] [] set call s mid t writes first long before said = (
    t,
    first,
    [],
    subst (λ x. CallSaid kept set call x t first) before.0 said,
    (refl, refl),
    ap (λ ws. ws ++ first) before.1 ∙ sym (append-nil first),
  )
  snoc [] (y ∷ calls) set call s mid t writes first long before said = absurd (omega arith)
  snoc (x ∷ sets) [] set call s mid t writes first long before said = absurd (omega arith)
  snoc (x ∷ sets) (y ∷ calls) set call s mid t writes first long before said = (
    before.0,
    before.1,
    before.2 ++ first,
    before.3,
    snoc sets calls set call before.0 mid t before.2 first (omega arith) before.4 said,
    ap (λ ws. ws ++ first) before.5 ∙ append_assoc before.1 before.2 first,
  )

  module _ (sets : List Setting) (calls : List Call) where
    -- the first n calls have answers and data, and `notes` has them; `here` are the vgetrandom states after the n calls
    abbrev pub SoFar : {Noted : Type 0} → (ℕ → MadeLine → Noted → Type 0) → ℕ → VStates → List Noted → Type 0
    SoFar IsNoted n here notes =
        (writes : List Write) × CallsSaid kept (take n sets) (take n calls) first_states here writes
        × Written IsNoted writes [] notes

    -- the calls after the first n have some answers and data, starting with the vgetrandom states `here`
    abbrev pub Left : ℕ → VStates → Type 0
    Left n here = (end : VStates) × (rest : List Write) × CallsSaid kept (drop n sets) (drop n calls) here end rest

    module _ (n : ℕ) (low : n < length sets) (low' : n < length calls) (set : Setting) (call : Call)
        (set_is : set ≡ get_or sets n set) (call_is : call ≡ get_or calls n call) (here : VStates) where
      pub so_far_more : {Noted : Type 0} (IsNoted : ℕ → MadeLine → Noted → Type 0) (next : VStates) (notes more : List Noted) →
          SoFar IsNoted n here notes →
          (writes : List Write) × CallSaid kept set call here next writes × Written IsNoted writes notes more →
          SoFar IsNoted (n + 1) next more
      so_far_more IsNoted next notes more before one =
          let a = length-take-le n sets (omega arith) in
          let b = length-take-le n calls (omega arith) in
          let P : List Setting → List Call → Type 0 = λ xs ys. CallsSaid kept xs ys first_states next (before.0 ++ one.0) in
          let calls_said = subst (λ ys. P (take (n + 1) sets) ys) (sym (taken_more calls n call low' call_is))
          (subst (λ xs. P xs (take n calls ++ call ∷ [])) (sym (taken_more sets n set low set_is))
          (snoc (take n sets) (take n calls) set call first_states here next before.0 one.0 (a ∙ sym b) before.1 one.1)) in
          (before.0 ++ one.0, calls_said, written_more IsNoted before.0 one.0 [] notes more before.2 one.2)

      -- if the calls after the first `n` have answers and data, the next call has them, and so have the calls after the
      -- first `n + 1`
      next_left : Left n here → (at : VStates) × (one : List Write) × CallSaid kept set call here at one × Left (n + 1) at
      next_left left =
          let P : List Setting → List Call → Type 0 = λ xs ys. CallsSaid kept xs ys here left.0 left.1 in
          let a : drop n sets ≡ set ∷ drop (n + 1) sets =
          drop_more sets n set low ∙ ap (λ x. x ∷ drop (n + 1) sets) (sym set_is) in
          let b : drop n calls ≡ call ∷ drop (n + 1) calls =
          drop_more calls n call low' ∙ ap (λ x. x ∷ drop (n + 1) calls) (sym call_is) in
          let first = subst (λ ys. P (set ∷ drop (n + 1) sets) ys) b (subst (λ xs. P xs (drop n calls)) a left.2) in
          (first.0, first.1, first.3, (left.0, first.2, first.4))

      pub left_more : (next : VStates) (writes : List Write) → CallSaid kept set call here next writes → Left n here →
          Left (n + 1) next
      left_more next writes said left =
          let one = next_left left in
          subst (λ s. Left (n + 1) s) (determined set call here one.0 next one.1 writes one.2 said) one.3

      pub none_left : ((t : VStates) (writes : List Write) → CallSaid kept set call here t writes → ⊥) → Left n here → ⊥
      none_left unsaid left = let one = next_left left in unsaid one.0 one.1 one.2

  pub all_said : (sets : List Setting) (calls : List Call) (n : ℕ) (s t : VStates) (writes : List Write) →
      n ≡ min (length calls) (length sets) → CallsSaid kept (take n sets) (take n calls) s t writes →
      CallsSaid kept sets calls s t writes
  all_said [] calls zero s t writes is said = said
  all_said [] calls (suc n) s t writes is said = said
  all_said (set ∷ sets) [] zero s t writes is said = said
  all_said (set ∷ sets) [] (suc n) s t writes is said = said
  all_said (set ∷ sets) (call ∷ calls) zero s t writes is said = absurd (omega arith)
  all_said (set ∷ sets) (call ∷ calls) (suc n) s t writes is said =
      (said.0, said.1, said.2, said.3, all_said sets calls n said.0 t said.2 (omega arith) said.4, said.5)
