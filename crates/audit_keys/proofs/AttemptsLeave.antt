-- If the steps of a line are those of an attempt, `attempted` gives the attempt's entries, and the outline of the state
-- that the attempt leaves.
use Rattle.std.proofs.Common.{◌≡◌, ℕ, Bool, true, false, Option, Some, List, ◌∷◌, ◌++◌, refl, sym, subst, ap, ◌∙◌, append_assoc, append-nil}
use Rattle.std.specs.Prelude.{◌==◌, MatchBool, if◌then◌else◌}
use Rattle.key_names.specs.declared.names.Step.{Step}
use Rattle.key_names.specs.declared.names.Step.TheVariants.{Look}
use Rattle.key_names.specs.declared.entries.VEntry.{VEntry}
use Rattle.key_names.specs.declared.point.Point.TheVariants.{Start, Written, Serve, End}
use Rattle.key_names.specs.Lanes.Book.{Lists}
use Rattle.key_names.specs.Callers.Calls.{Setting, BoundAct}
use Rattle.key_names.specs.Callers.Effects.{Effect, looked, effects_of}
use Rattle.key_names.specs.Kernel.VgetrandomState.{VgetrandomState, state_left}
use Rattle.key_names.specs.Kernel.BatchCopy.{state_after_copy, copy_entries}
use Rattle.key_names.specs.Kernel.Vgetrandom.{CpuPlace, SystemAnswer, HostStep, publishes, system_call, at_point, Attempt, holds, outdated, prefix_attempt, wipe_entry, rekey_entry, AtPoint, FromServe, Keyed, AfterKeyRead, FromWritten, FromStart, IsAttempt}
use Rattle.key_names.specs.Callers.VreadSteps.{points_of, published_by, Shows, is_wiped}
use Rattle.key_names.proofs.Vgetrandom.Attempts.{copy_attempt}
use Rattle.key_names.proofs.Unique.UniqueAttempts.{AllReady, ready_at}
use Rattle.key_names.proofs.Unique.UniqueTries.{reached}
use Rattle.judge_vread.proofs.AttemptShapes.{copied as copy_shape}
use Rattle.judge_vread.proofs.CallPoints.{attempt_points}
use Rattle.audit_keys.specs.Outline.{IsOutline}
use Rattle.audit_keys.specs.Left.{Left, After, met, copied, keyed, with_key, from_serve, from_written, from_start, attempted}
use Rattle.audit_keys.proofs.Outlines.{generation_test, same_entries, same_block, copy_outline, met_outline, met_entries}
use Rattle.audit_keys.proofs.KeySteps.{FirstStep, first_step, key_listed}

-- `b` ends as the attempt `a` does, and `rest` are the steps after the attempt. The entries of `b` are `before` and
-- then the entries of `a`. The outline of `b` is the outline of the state that `a` leaves
pub record Gives (before : List VEntry) (rest : List Step) (a : Attempt) (b : After) : Type 0 where
  pub entries : b.left.entries ≡ before ++ a.entries
  pub outline : IsOutline b.left.outline a.state
  pub next_block : b.next_block ≡ a.next_block
  pub rest_is : b.rest ≡ rest
  pub end : a.end ≡ (if b.holds then holds else outdated)

gives_at : (before : List VEntry) (rest : List Step) (a a' : Attempt) (b b' : After) → a ≡ a' → b ≡ b' →
    Gives before rest a' b' → Gives before rest a b
gives_at before rest a a' b b' p q g =
    let P : Attempt → Type 0 = λ x. Gives before rest x b in let Q : After → Type 0 = λ x. Gives before rest a' x in
    subst P (sym p) (subst Q (sym q) g)

-- suppose that the entries of `b` are `before`, then `es`, then the entries of the attempt `a`. Suppose that `b`
-- otherwise ends as `a` does. Then `Gives` holds after `before` for `a` with `es` in front of its entries
gives_after : (es before now : List VEntry) (rest : List Step) (a : Attempt) (b : After) → now ≡ before ++ es →
    Gives now rest a b → Gives before rest (prefix_attempt es a) b
gives_after es before now rest a b more g = record {
  entries = g.entries ∙ ap (λ x. x ++ a.entries) more ∙ append_assoc before es a.entries;
  outline = g.outline;
  next_block = g.next_block;
  rest_is = g.rest_is;
  end = g.end;
}

-- at each point the acts wipe exactly if the attempt's state was wiped there (`w1` to `w4`); `Written` counts only if a
-- key was read (`keyed`)
pub record WipesAre (acts : List BoundAct) (keyed w1 w2 w3 w4 : Bool) : Type 0 where
  pub start : is_wiped acts Start ≡ w1
  pub written : keyed ≡ true → is_wiped acts Written ≡ w2
  pub serve : is_wiped acts Serve ≡ w3
  pub end : is_wiped acts End ≡ w4

module _ (lists : Lists) (set : Setting) (more : List HostStep) where
  -- ---- `from_serve` ends as an attempt from its point Serve on does ----

  copy_gives : (acts : List BoundAct) (n c h : ℕ) (w3 w4 : Bool) (s : VgetrandomState) (l : Left) (rest : List Step) →
      is_wiped acts Serve ≡ w3 → is_wiped acts End ≡ w4 → IsOutline l.outline s →
      Gives l.entries rest (copy_attempt n c (published_by h) w3 w4 s) (from_serve acts n c l (Look h ∷ rest))
  copy_gives acts n c h w3 w4 s l rest e3 e4 is =
      let s3 = state_left w3 s in
      let l3 = met (is_wiped acts Serve) l in
      let is3 = met_outline (is_wiped acts Serve) w3 l s e3 is in
      let is4 = copy_outline l3 s3 c n is3 in
      let lc = copied n c l3 in
      let sc = state_after_copy s3 c n in
      let end = met (is_wiped acts End) lc in
      let is_end = met_outline (is_wiped acts End) w4 lc sc e4 is4 in
      gives_after (wipe_entry w3) l.entries l3.entries rest _ _ (met_entries (is_wiped acts Serve) w3 l e3) (record {
        entries = met_entries (is_wiped acts End) w4 lc e4
            ∙ ap (λ es. (l3.entries ++ es) ++ wipe_entry w4) (same_entries l3.outline s3 c n is3)
            ∙ append_assoc l3.entries (copy_entries s3 c n) (wipe_entry w4)
            ∙ ap (λ es. l3.entries ++ (copy_entries s3 c n ++ es)) (sym (append-nil (wipe_entry w4)));
        outline = is_end;
        next_block = same_block l3.outline s3 c n is3;
        rest_is = refl;
        end = ap (λ b. if b then holds else outdated) (generation_test end.outline (state_left w4 sc) h is_end);
      })

  -- ---- `attempted` ends as a whole attempt does ----

  pub record AttemptLeaves (n c : ℕ) (s : VgetrandomState) (tried : List HostStep) (steps : List Step)
      (a : Attempt) : Type 0 where
    pub w1 : Bool
    pub w2 : Bool
    pub w3 : Bool
    pub w4 : Bool
    pub keyed : Bool
    pub effects : List Effect
    pub rest : List Step
    pub following : effects_of lists rest ≡ effects
    pub shows : Shows set more effects
    pub ready : AllReady effects
    pub points : points_of (tried ++ more) ≡ attempt_points keyed w1 w2 w3 w4 (points_of more)
    pub gives : (acts : List BoundAct) (l : Left) → WipesAre acts keyed w1 w2 w3 w4 → IsOutline l.outline s →
        Gives l.entries rest a (attempted acts n c l steps)

  pub attempt_leaves : (n c : ℕ) (s : VgetrandomState) (tried : List HostStep) (ds : List Effect) (steps : List Step)
      (a : Attempt) → IsAttempt n c s tried a → Shows set (tried ++ more) ds → effects_of lists steps ≡ ds →
      AllReady ds → AttemptLeaves n c s tried steps a
  attempt_leaves n c s tried ds steps a t shows effects ready = go (s1.generation == published_by g) refl goes
    where
      st : AtPoint Start (FromStart n c t.published) s t.rest a
      st = t.goes_on

      s1 : VgetrandomState
      s1 = state_left st.wiped s

      all : tried ≡ publishes t.published ∷ at_point Start st.wiped ∷ st.rest
      all = t.steps_are ∙ ap (λ x. publishes t.published ∷ x) st.steps_are

      y : Shows set (publishes t.published ∷ at_point Start st.wiped ∷ st.rest ++ more) ds
      y = let P : List HostStep → Type 0 = λ x. Shows set (x ++ more) ds in subst P all shows

      g : ℕ
      g = y.0

      r : AllReady (looked y.0 ∷ y.1)
      r = ready_at y.2 ready

      f : FirstStep lists (looked y.0) y.1 steps
      f = first_step lists (looked y.0) y.1 steps (effects ∙ y.2)

      goes : FromStart n c (published_by g) s1 st.rest st.attempt_after
      goes = let P : ℕ → Type 0 = λ x. FromStart n c x s1 st.rest st.attempt_after in subst P y.3.0 st.goes_on

      -- after its look, an attempt goes on from its point Start
      looks : (acts : List BoundAct) (l : Left) → attempted acts n c l steps
          ≡ from_start acts n c g (met (is_wiped acts Start) l) f.rest
      looks acts l = ap (attempted acts n c l) (f.steps_are ∙ ap (λ x. x ∷ f.rest) f.tells)

      current : (s1.generation == published_by g) ≡ true → AtPoint Serve (FromServe n c) s1 st.rest st.attempt_after →
          AttemptLeaves n c s tried steps a
      current e x =
          let cp = copy_shape set more n c s1 st.rest y.1 st.attempt_after x y.3.1 in
          let k = first_step lists (looked cp.h) cp.rest f.rest (f.following ∙ cp.effects_are) in
          let rr = ready_at cp.effects_are r.1 in
          record {
            w1 = st.wiped;
            w2 = false;
            w3 = cp.w3;
            w4 = cp.w4;
            keyed = false;
            effects = cp.rest;
            rest = k.rest;
            following = k.following;
            shows = cp.shows;
            ready = rr.1;
            points = ap (λ x. points_of (x ++ more)) all ∙ ap (λ ps. reached Start st.wiped ∷ ps) cp.points;
            gives = λ acts l wipes is.
                let l1 = met (is_wiped acts Start) l in
                let is1 = met_outline (is_wiped acts Start) st.wiped l s wipes.start is in
                gives_at l.entries k.rest a _ _ _
                (st.attempt_is ∙ ap (prefix_attempt (wipe_entry st.wiped)) cp.attempt_is)
                (looks acts l
                ∙ ap (λ b. if b then from_serve acts n c l1 f.rest
                else from_written acts n c (record l1 { outline = record l1.outline { found = g } }) f.rest)
                (sym (generation_test l1.outline s1 g is1) ∙ e)
                ∙ ap (from_serve acts n c l1) (k.steps_are ∙ ap (λ x. x ∷ k.rest) k.tells))
                (gives_after (wipe_entry st.wiped) l.entries l1.entries k.rest _ _
                (met_entries (is_wiped acts Start) st.wiped l wipes.start)
                (copy_gives acts n c cp.h cp.w3 cp.w4 s1 l1 k.rest wipes.serve wipes.end is1));
          }

      rekeyed : (s1.generation == published_by g) ≡ false →
          AtPoint Written (FromWritten n c) (record s1 { generation = published_by g }) st.rest st.attempt_after →
          AttemptLeaves n c s tried steps a
      rekeyed e x =
          let sg : VgetrandomState = record s1 { generation = published_by g } in
          let s2 = state_left x.wiped sg in
          let w = x.goes_on in
          let after_start : st.rest ≡ at_point Written x.wiped ∷ system_call 32 0 w.answer ∷ w.rest =
          x.steps_are ∙ ap (λ r. at_point Written x.wiped ∷ r) w.steps_are in
          let P : List HostStep → Type 0 = λ r. Shows set (r ++ more) y.1 in
          let call = subst P after_start y.3.1 in
          let kt = key_listed lists f.rest call.call call.rest w.answer (f.following ∙ call.effects_are) call.answers set
          call.form (ready_at call.effects_are r.1) in
          let visit : Option CpuPlace = Some (record { cpu = kt.key.cpu; place = kt.key.place }) in
          let Q : SystemAnswer → Type 0 = λ answer. AfterKeyRead n c answer s2 w.rest x.attempt_after in
          let kd : Keyed n c kt.bytes visit s2 w.rest x.attempt_after = subst Q kt.answer_is w.goes_on in
          let s3 : VgetrandomState = record s2 { key = kt.bytes; pos = 96 } in
          let cp = copy_shape set more n c s3 w.rest call.rest kd.attempt_after kd.goes_on call.goes_on in
          let k = first_step lists (looked cp.h) cp.rest kt.rest (kt.following ∙ cp.effects_are) in
          let rr = ready_at cp.effects_are kt.ready in
          record {
            w1 = st.wiped;
            w2 = x.wiped;
            w3 = cp.w3;
            w4 = cp.w4;
            keyed = true;
            effects = cp.rest;
            rest = k.rest;
            following = k.following;
            shows = cp.shows;
            ready = rr.1;
            points = ap (λ x. points_of (x ++ more)) all ∙ ap (λ ps. reached Start st.wiped ∷ ps)
                (ap (λ x. points_of (x ++ more)) after_start
                ∙ ap (λ ps. reached Written x.wiped ∷ ps) cp.points);
            gives = λ acts l wipes is.
                let l1 = met (is_wiped acts Start) l in
                let is1 = met_outline (is_wiped acts Start) st.wiped l s wipes.start is in
                let lg : Left = record l1 { outline = record l1.outline { found = g } } in
                let isg : IsOutline lg.outline sg = record { generation = refl; served = is1.served } in
                let l2 = met (is_wiped acts Written) lg in
                let is2 = met_outline (is_wiped acts Written) x.wiped lg sg (wipes.written refl) isg in
                let l3 = keyed kt.key l2 in
                let is3 : IsOutline l3.outline s3 = record { generation = is2.generation; served = refl } in
                gives_at l.entries k.rest a _ _ _
                (st.attempt_is ∙ ap (prefix_attempt (wipe_entry st.wiped))
                (x.attempt_is ∙ ap (prefix_attempt (wipe_entry x.wiped))
                (kd.attempt_is ∙ ap (prefix_attempt (rekey_entry visit)) cp.attempt_is)))
                (looks acts l
                ∙ ap (λ b. if b then from_serve acts n c l1 f.rest else from_written acts n c lg f.rest)
                (sym (generation_test l1.outline s1 g is1) ∙ e)
                ∙ ap (with_key acts n c l2) kt.listed
                ∙ ap (from_serve acts n c l3) (k.steps_are ∙ ap (λ x. x ∷ k.rest) k.tells))
                (gives_after (wipe_entry st.wiped) l.entries l1.entries k.rest _ _
                (met_entries (is_wiped acts Start) st.wiped l wipes.start)
                (gives_after (wipe_entry x.wiped) lg.entries l2.entries k.rest _ _
                (met_entries (is_wiped acts Written) x.wiped lg (wipes.written refl))
                (gives_after (rekey_entry visit) l2.entries l3.entries k.rest _ _ refl
                (copy_gives acts n c cp.h cp.w3 cp.w4 s3 l3 k.rest wipes.serve wipes.end is3))));
          }

      go : (b : Bool) → (s1.generation == published_by g) ≡ b →
          MatchBool b (AtPoint Serve (FromServe n c) s1 st.rest st.attempt_after)
          (AtPoint Written (FromWritten n c) (record s1 { generation = published_by g }) st.rest st.attempt_after) →
          AttemptLeaves n c s tried steps a
      go true e x = current e x
      go false e x = rekeyed e x
