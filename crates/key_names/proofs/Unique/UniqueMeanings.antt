-- The meanings of a call in two books are alike: the call's lines have the same entries, and afterwards the caller's
-- states are alike.
use Rattle.std.proofs.Common.{◌≡◌, Bool, List, [], ◌∷◌, refl, sym, subst, ap, ◌∙◌}
use Rattle.std.specs.List.{AllByRecursion}
use Rattle.key_names.specs.declared.names.Who.{Who}
use Rattle.key_names.specs.declared.events.Event.{Event}
use Rattle.key_names.specs.declared.events.Event.TheVariants.{Reseed}
use Rattle.key_names.specs.declared.events.InsideAct.{InsideAct}
use Rattle.key_names.specs.declared.events.InsideAct.TheVariants.{Wipe as WipeAct, Vread as VreadAct}
use Rattle.key_names.specs.declared.events.InsideAct.TheVariants.{Reseed as ReseedAct}
use Rattle.key_names.specs.Lanes.Book.{Book, lists_of}
use Rattle.key_names.specs.Lanes.Samples.{LawfulSamples}
use Rattle.key_names.specs.Callers.Calls.{Setting, Call, alone, vread_call, unbound, ending, BoundAct}
use Rattle.key_names.specs.Callers.Effects.{effects_of}
use Rattle.key_names.specs.Callers.Forms.{Form}
use Rattle.key_names.specs.Callers.Answers.{answer_of, shown_of, system_answer, served_bytes}
use Rattle.key_names.specs.Transcripts.SeenLine.{SeenLine, bytes_or_none}
use Rattle.key_names.specs.Callers.Meaning.{LineMeaning, CallMeaning, caller_after, AloneMeans, unused_line, UnboundMeans}
use Rattle.key_names.specs.Callers.Meaning.{EndingMeans, ActMeans, ActsMean}
use Rattle.key_names.specs.Transcripts.IsTranscript.{EachAct}
use Rattle.key_names.proofs.Unique.TwoBooks.{SameSteps, AllInferred, same_at, inferred_at}
use Rattle.key_names.proofs.Unique.UniqueForms.{inferred_system}
use Rattle.key_names.proofs.Unique.UniqueEvents.{inferred_event, inferred_end}
use Rattle.key_names.proofs.Unique.UniqueAttempts.{match_both}
use Rattle.key_names.proofs.Unique.UniqueCallers.{SameCaller, same_after, callers_at}

-- the maker of a line's visits; the number of the step does not matter here
abbrev pub maker : SeenLine → Who
maker line = record { caller = line.caller; event = line.event; step = 0 }

-- P holds for each line of a call
abbrev pub OfCall : (SeenLine → Type 0) → Call → Type 0
OfCall P (alone event line) = P line
OfCall P (vread_call n flags line acts) = P line × AllByRecursion (λ bound. P bound.line) acts
OfCall P (unbound bound) = P bound.line
OfCall P (ending line) = P line

module _ (book book' : Book) (samples : LawfulSamples book) (samples' : LawfulSamples book') where
  abbrev H : Type 0
  H = lists_of book ≡ lists_of book'

  -- SameSteps holds for the effects that the line's steps have in the two books
  abbrev pub LineSame : SeenLine → Type 0
  LineSame line =
      SameSteps book book' (maker line) (effects_of (lists_of book) line.steps) (effects_of (lists_of book') line.steps)

  abbrev pub LineInferred : SeenLine → Type 0
  LineInferred line =
      AllInferred book book' (maker line) (effects_of (lists_of book) line.steps) (effects_of (lists_of book') line.steps)

  abbrev pub After : SeenLine → LineMeaning → Type 0
  After line m = effects_of (lists_of book) line.steps ≡ m.effects

  abbrev pub After' : SeenLine → LineMeaning → Type 0
  After' line m = effects_of (lists_of book') line.steps ≡ m.effects

  -- if both books have the same lists, a line has the same effects in both
  pub effects_equal : (line : SeenLine) (m m' : LineMeaning) → After line m → After' line m' → H → m.effects ≡ m'.effects
  effects_equal line m m' p p' h = sym p ∙ ap (λ lists. effects_of lists line.steps) h ∙ p'

  -- `m` and `m'`, the meanings of a call in the two books, are alike
  pub record MeaningAlike (call : Call) (m m' : CallMeaning) : Type 0 where
    pub inferred : OfCall LineInferred call
    pub entries : m.entries ≡ m'.entries
    pub after : SameCaller H m.after m'.after
    pub equal : H → m ≡ m'

  pub alone_alike : (event : Event) (line : SeenLine) (m m' : CallMeaning) → LineSame line → After line m.own →
      After' line m'.own → SameCaller H m.before m'.before → AloneMeans event m → AloneMeans event m' →
      MeaningAlike (alone event line) m m'
  alone_alike event line m m' same p p' before a a' =
      let F : Setting → Type 0 = λ set. Form set event m'.own.effects in
      record {
        inferred = inferred_at book book' (maker line) p p'
            (inferred_event book book' (maker line) samples samples' m.before.setting event m.own.effects m'.own.effects a.form
            (subst F (sym before.setting) a'.form) (same_at book book' (maker line) p p' same));
        entries = a.entries ∙ sym a'.entries;
        after = callers_at H m.after m'.after _ _ a.after a'.after (same_after H event m.before m'.before before);
        equal = λ h. (let d = effects_equal line m.own m'.own p p' h in
            let answer : m.own.answer ≡ m'.own.answer = a.answer ∙ ap (answer_of event) d ∙ sym a'.answer in
            let shown : m.own.shown ≡ m'.own.shown = a.shown ∙ ap (shown_of event) d ∙ sym a'.shown in
            let acts : m.acts ≡ m'.acts = a.no_acts ∙ sym a'.no_acts in
            let entries : m.entries ≡ m'.entries = a.entries ∙ sym a'.entries in
            let after : m.after ≡ m'.after = a.after ∙ ap (λ s. caller_after s event) (before.equal h) ∙ sym a'.after in
            λ i. record {
              own = record { effects = d i; answer = answer i; shown = shown i };
              acts = acts i;
              entries = entries i;
              before = before.equal h i;
              after = after i;
            });
      }

  pub unbound_alike : (bound : BoundAct) (m m' : CallMeaning) → After bound.line m.own → After' bound.line m'.own →
      SameCaller H m.before m'.before → UnboundMeans m → UnboundMeans m' → MeaningAlike (unbound bound) m m'
  unbound_alike bound m m' p p' before u u' = record {
    inferred = inferred_at book book' (maker bound.line) (p ∙ ap (λ (x : LineMeaning). x.effects) u.own)
        (p' ∙ ap (λ (x : LineMeaning). x.effects) u'.own) tt;
    entries = u.entries ∙ sym u'.entries;
    after = callers_at H m.after m'.after m.before m'.before u.after u'.after before;
    equal = λ h. (let own : m.own ≡ m'.own = u.own ∙ sym u'.own in
        let acts : m.acts ≡ m'.acts = u.no_acts ∙ sym u'.no_acts in
        let entries : m.entries ≡ m'.entries = u.entries ∙ sym u'.entries in
        let after : m.after ≡ m'.after = u.after ∙ before.equal h ∙ sym u'.after in
        λ i. record { own = own i; acts = acts i; entries = entries i; before = before.equal h i; after = after i });
  }

  pub ending_alike : (line : SeenLine) (m m' : CallMeaning) → LineSame line → After line m.own → After' line m'.own →
      SameCaller H m.before m'.before → EndingMeans m → EndingMeans m' → MeaningAlike (ending line) m m'
  ending_alike line m m' same p p' before e e' = record {
    inferred = inferred_at book book' (maker line) p p'
        (inferred_end book book' (maker line) samples samples' m.own.effects m'.own.effects e.form e'.form
        (same_at book book' (maker line) p p' same));
    entries = e.entries ∙ sym e'.entries;
    after = callers_at H m.after m'.after m.before m'.before e.after e'.after before;
    equal = λ h. (let d = effects_equal line m.own m'.own p p' h in
        let answer : m.own.answer ≡ m'.own.answer = e.answer ∙ sym e'.answer in
        let shown : m.own.shown ≡ m'.own.shown = e.shown ∙ sym e'.shown in
        let acts : m.acts ≡ m'.acts = e.no_acts ∙ sym e'.no_acts in
        let entries : m.entries ≡ m'.entries = e.entries ∙ sym e'.entries in
        let after : m.after ≡ m'.after = e.after ∙ before.equal h ∙ sym e'.after in
        λ i. record {
          own = record { effects = d i; answer = answer i; shown = shown i };
          acts = acts i;
          entries = entries i;
          before = before.equal h i;
          after = after i;
        });
  }

  -- `m` and `m'`, the meanings of an act inside a vread in the two books, are alike
  record ActAlike (line : SeenLine) (m m' : LineMeaning) : Type 0 where
    inferred : LineInferred line
    equal : H → m ≡ m'

  act_alike : (set : Setting) (act : InsideAct) (line : SeenLine) (m m' : LineMeaning) → LineSame line → After line m →
      After' line m' → ActMeans set act m → ActMeans set act m' → ActAlike line m m'
  act_alike set WipeAct line m m' same p p' a a' = record {
    inferred = inferred_at book book' (maker line) (p ∙ ap (λ (x : LineMeaning). x.effects) a)
        (p' ∙ ap (λ (x : LineMeaning). x.effects) a') tt;
    equal = λ h. a ∙ sym a';
  }
  act_alike set (VreadAct n) line m m' same p p' a a' = record {
    inferred = inferred_at book book' (maker line) p p'
        (inferred_system book book' (maker line) set n 0 m.effects m'.effects a.0 a'.0 (same_at book book'
        (maker line) p p' same));
    equal = λ h. (let d = effects_equal line m m' p p' h in
        let answer : m.answer ≡ m'.answer = a.1 ∙ ap (system_answer 0) d ∙ sym a'.1 in
        let shown : m.shown ≡ m'.shown = a.2 ∙ ap (λ x. bytes_or_none (served_bytes x)) d ∙ sym a'.2 in
        λ i. record { effects = d i; answer = answer i; shown = shown i });
  }
  act_alike set ReseedAct line m m' same p p' a a' = record {
    inferred = inferred_at book book' (maker line) p p'
        (inferred_event book book' (maker line) samples samples' set Reseed m.effects m'.effects a.0 a'.0
        (same_at book book' (maker line) p p' same));
    equal = λ h. (let d = effects_equal line m m' p p' h in
        let answer : m.answer ≡ m'.answer = a.1 ∙ ap (answer_of Reseed) d ∙ sym a'.1 in
        let shown : m.shown ≡ m'.shown = a.2 ∙ ap (shown_of Reseed) d ∙ sym a'.2 in
        λ i. record { effects = d i; answer = answer i; shown = shown i });
  }

  pub record ActsAlike (acts : List BoundAct) (ms ms' : List LineMeaning) : Type 0 where
    pub inferred : AllByRecursion (λ bound. LineInferred bound.line) acts
    pub equal : H → ms ≡ ms'

  pub acts_alike : (set : Setting) (reached : BoundAct → Bool) (acts : List BoundAct) (ms ms' : List LineMeaning) →
      AllByRecursion (λ bound. LineSame bound.line) acts → EachAct After acts ms → EachAct After' acts ms' →
      ActsMean set reached acts ms → ActsMean set reached acts ms' → ActsAlike acts ms ms'
  acts_alike set reached [] [] [] same p p' a a' = record { inferred = tt; equal = λ h. refl }
  acts_alike set reached [] [] (m' ∷ ms') same p p' a a' = absurd p'
  acts_alike set reached [] (m ∷ ms) ms' same p p' a a' = absurd p
  acts_alike set reached (bound ∷ acts) [] ms' same p p' a a' = absurd p
  acts_alike set reached (bound ∷ acts) (m ∷ ms) [] same p p' a a' = absurd p'
  acts_alike set reached (bound ∷ acts) (m ∷ ms) (m' ∷ ms') same p p' a a' =
      let here : ActAlike bound.line m m' = match_both (ActMeans set bound.act m) (m ≡ unused_line)
      (ActMeans set bound.act m') (m' ≡ unused_line) (ActAlike bound.line m m') (reached bound) (reached bound) refl
      (λ is x y. act_alike set bound.act bound.line m m' same.0 p.0 p'.0 x y)
      (λ is x y. record {
        inferred = inferred_at book book' (maker bound.line) (p.0 ∙ ap (λ (x : LineMeaning). x.effects) x)
            (p'.0 ∙ ap (λ (x : LineMeaning). x.effects) y) tt;
        equal = λ h. x ∙ sym y;
      }) a.0 a'.0 in
      let rest = acts_alike set reached acts ms ms' same.1 p.1 p'.1 a.1 a'.1 in
      record {
        inferred = (here.inferred, rest.inferred);
        equal = λ h. ap (λ x. x ∷ ms) (here.equal h) ∙ ap (λ xs. m' ∷ xs) (rest.equal h);
      }
