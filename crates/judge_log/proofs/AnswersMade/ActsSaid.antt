-- For a vread, the code notes the answer and data of each act inside it, and then the vread's own answer and data.
use Rattle.std.proofs.Common.{◌≡◌, ℕ, ◌+◌, ◌<◌, Bool, true, false, List, [], ◌∷◌, ◌++◌, length, get_or, take, map, refl, sym, subst, ap, ◌∙◌, Some, None}
use Rattle.std.specs.Prelude.{Option, MatchBool}
use Rattle.std.specs.List.{AllByRecursion}
use Rattle.std.proofs.lemmas.List.{map-append}
use Rattle.key_names.specs.Callers.Calls.{Setting, BoundAct}
use Rattle.key_names.specs.Transcripts.SeenLine.{SeenLine}
use Rattle.std.proofs.lemmas.Option.{same_Some}
use Rattle.judge_lines.specs.declared.called.ActLine.{ActLine}
use Rattle.judge_lines.specs.Called.{seen_act}
use Rattle.judge_log.specs.declared.kept.Lists.{Lists as KeptLists}
use Rattle.judge_vread.specs.declared.inside.Inside.{Inside}
use Rattle.judge_vread.specs.declared.inside.Reached.{Reached}
use Rattle.judge_vread.specs.declared.follow.VreadPath.{VreadPath}
use Rattle.judge_vread.specs.declared.seen.SeenStep.{SeenStep}
use Rattle.judge_vread.specs.Path.{Followed, followed}
use Rattle.judge_vread.specs.Inside.{includes, inside_of}
use Rattle.judge_log.specs.declared.said.MadeLine.{MadeLine}
use Rattle.judge_log.specs.declared.said.ShownRecipe.TheVariants.{Served}
use Rattle.judge_log.specs.Met.{met_in, seen_in}
use Rattle.judge_log.specs.EventSays.{IsActSaid}
use Rattle.judge_log.specs.Writes.{Write, IsPut, Written}
use Rattle.judge_log.specs.CallSays.{VStates, state_of, with_state, write, ActDone, act_write, VreadSaid}
use Rattle.judge_log.proofs.AnswersMade.Going.{mapped_more}
use Rattle.judge_log.proofs.AnswersMade.CallLoop.{written_more}

pub at_true : (b : Bool) (P Q : Type 0) → b ≡ true → MatchBool b P Q → P
at_true b P Q is h = subst (λ x. MatchBool x P Q) is h

pub at_false : (b : Bool) (P Q : Type 0) → b ≡ false → MatchBool b P Q → Q
at_false b P Q is h = subst (λ x. MatchBool x P Q) is h

module _ (kept : KeptLists) (set : Setting) (reached : Reached) where
  module _ (bound : BoundAct) (done : Bool) (o : Option MadeLine) (done_is : done ≡ includes reached bound.point)
      (said : IsActSaid kept set done bound.act bound.line.steps o) where
    said_here : IsActSaid kept set (includes reached bound.point) bound.act bound.line.steps o
    said_here = subst (λ b. IsActSaid kept set b bound.act bound.line.steps o) done_is said

    pub not_done : o ≡ None → ActDone kept set reached bound → ⊥
    not_done is =
        subst (λ x. IsActSaid kept set (includes reached bound.point) bound.act bound.line.steps x) is said_here

    pub is_done : (one : MadeLine) → o ≡ Some one →
        ActDone kept set reached bound × (one ≡ (act_write kept set reached bound).said)
    is_done one is =
        subst (λ x. IsActSaid kept set (includes reached bound.point) bound.act bound.line.steps x) is said_here

  -- if the first `i` acts are noted and then the next act is noted, the first `i + 1` acts are noted
  pub acts_written : {Noted : Type 0} (IsNoted : ℕ → MadeLine → Noted → Type 0) (acts : List ActLine) (i : ℕ) (a : ActLine) →
      i < length acts → a ≡ get_or acts i a → (old mid new : List Noted) (one : MadeLine) →
      Written IsNoted (map (act_write kept set reached) (map seen_act (take i acts))) old mid →
      one ≡ (act_write kept set reached (seen_act a)).said → IsPut IsNoted a.line.event one mid new →
      Written IsNoted (map (act_write kept set reached) (map seen_act (take (i + 1) acts))) old new
  acts_written IsNoted acts i a low is old mid new one before one_is put =
      let here = subst (λ x. IsPut IsNoted a.line.event x mid new) one_is put in
      let w = act_write kept set reached in
      let so_far = map seen_act (take i acts) in
      let e : map w so_far ++ w (seen_act a) ∷ [] ≡ map w (map seen_act (take (i + 1) acts)) =
      sym (map-append w so_far (seen_act a ∷ [])) ∙ ap (map w) (mapped_more acts i a low is seen_act so_far refl) in
      subst (λ ws. Written IsNoted ws old new) e
      (written_more IsNoted (map w so_far) (w (seen_act a) ∷ []) old mid new before (new, here, refl))

-- ---- a vread with its acts

none_some : {X : Type 0} (x : X) → None ≡ Some x → ⊥
none_some x e = cc

module _ (kept : KeptLists) (set : Setting) (n flags : ℕ) (line : SeenLine) (acts : List BoundAct) (s : VStates)
    (inside : Inside) (seen : List SeenStep) (inside_is : inside ≡ inside_of acts)
    (seen_is : seen ≡ seen_in set.cpu (met_in kept line.steps)) where
  follows : (o : Option Followed) → followed n flags inside (state_of s) seen ≡ o →
      followed n flags (inside_of acts) (state_of s) (seen_in set.cpu (met_in kept line.steps)) ≡ o
  follows o is =
      let P : Inside → List SeenStep → Type 0 = λ x y. followed n flags x (state_of s) y ≡ o in
      subst (λ y. P (inside_of acts) y) seen_is (subst (λ x. P x seen) inside_is is)

  pub not_followed : followed n flags inside (state_of s) seen ≡ None → (t : VStates) (writes : List Write) →
      VreadSaid kept set n flags line acts s t writes → ⊥
  not_followed none t writes said = none_some said.f (sym (follows None none) ∙ said.follows)

  module _ (f : Followed) (path : VreadPath) (is : followed n flags inside (state_of s) seen ≡ Some f)
      (path_is : path ≡ f.path) where
    pub acts_undone : (AllByRecursion (ActDone kept set path.reached) acts → ⊥) → (t : VStates) (writes : List Write) →
        VreadSaid kept set n flags line acts s t writes → ⊥
    acts_undone undone t writes said =
        let same : said.f ≡ f = same_Some said.f f (sym said.follows ∙ follows (Some f) is) in
        let e : said.f.path.reached ≡ path.reached = ap (λ x. x.path.reached) same ∙ ap (λ x. x.reached) (sym path_is) in
        undone (subst (λ r. AllByRecursion (ActDone kept set r) acts) e said.done)

    pub vread_done : {Noted : Type 0} (IsNoted : ℕ → MadeLine → Noted → Type 0) (t : VStates) (old mid new : List Noted) →
        t ≡ with_state s f.state → AllByRecursion (ActDone kept set path.reached) acts →
        Written IsNoted (map (act_write kept set path.reached) acts) old mid →
        IsPut IsNoted line.event (record { answer = path.answer; shows = Served path.served }) mid new →
        (writes : List Write) × VreadSaid kept set n flags line acts s t writes × Written IsNoted writes old new
    vread_done IsNoted t old mid new t_is done written put =
        let P : VreadPath → Type 0 = λ x. AllByRecursion (ActDone kept set x.reached) acts in
        let W : VreadPath → List Write = λ x. map (act_write kept set x.reached) acts
        ++ write line (record { answer = x.answer; shows = Served x.served }) ∷ [] in
        let all = written_more IsNoted (map (act_write kept set path.reached) acts) _ old mid new written (new, put, refl) in (
          W path,
          record {
            f = f;
            follows = follows (Some f) is;
            done = subst P path_is done;
            new_is = t_is;
            writes_are = ap W path_is;
          },
          all,
        )
