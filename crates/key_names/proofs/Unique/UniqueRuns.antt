-- The meanings of each call of a caller in two books are alike, and so are the meanings of all the caller's calls
-- together.
use Rattle.std.proofs.Common.{◌≡◌, ℕ, List, [], ◌∷◌, ◌++◌, refl, sym, subst, ap, ◌∙◌}
use Rattle.std.specs.Prelude.{◌==◌, if◌then◌else◌}
use Rattle.std.specs.List.{AllByRecursion}
use Rattle.key_names.specs.Lanes.Book.{Book, lists_of}
use Rattle.key_names.specs.Lanes.Samples.{LawfulSamples}
use Rattle.key_names.specs.Callers.Calls.{Setting, Call, alone, vread_call, unbound, ending, BoundAct}
use Rattle.key_names.specs.Callers.Effects.{Effect, looked}
use Rattle.key_names.specs.Callers.Forms.{Looked}
use Rattle.key_names.specs.Transcripts.SeenLine.{SeenLine, bytes_or_none}
use Rattle.key_names.specs.Kernel.VgetrandomState.{VgetrandomState, wiped_state}
use Rattle.key_names.specs.Kernel.BatchCopy.{copy_bytes, state_after_copy, serves_locally}
use Rattle.key_names.specs.Kernel.Vgetrandom.{Outcome}
use Rattle.key_names.specs.Callers.VreadSteps.{Shows, PointReached, points_of, is_reached, ending_answer, ending_shown}
use Rattle.key_names.specs.Callers.VreadSteps.{published_by, looks_of, NeverFall}
use Rattle.key_names.specs.Callers.Meaning.{CallerState, LineMeaning, CallMeaning, current_state, with_state, ActsMean}
use Rattle.key_names.specs.Callers.Meaning.{ByLocalCopy, ByVgetrandom, tries_local, LocalOrCall, VreadMeans, Means}
use Rattle.key_names.specs.Transcripts.IsTranscript.{EachAct, EachOfCall, EachLine, CallsMean, entries_of_state}
use Rattle.key_names.proofs.Unique.TwoBooks.{same_at, inferred_at}
use Rattle.key_names.proofs.Unique.UniqueStates.{SameState, same_entries, same_copy}
use Rattle.key_names.proofs.Unique.UniqueAttempts.{match_both}
use Rattle.key_names.proofs.Unique.UniqueCalls.{call_alike}
use Rattle.key_names.proofs.Unique.UniqueCallers.{SameCaller, same_current, same_with_state, callers_at}
use Rattle.key_names.proofs.Unique.UniqueMeanings.{maker, OfCall, LineSame, LineInferred, After, After', effects_equal}
use Rattle.key_names.proofs.Unique.UniqueMeanings.{MeaningAlike, alone_alike, unbound_alike, ending_alike, acts_alike}

module _ (book book' : Book) (samples : LawfulSamples book) (samples' : LawfulSamples book') where
  abbrev H : Type 0
  H = lists_of book ≡ lists_of book'

  abbrev Alike : Call → CallMeaning → CallMeaning → Type 0
  Alike = MeaningAlike book book' samples samples'

  abbrev Same : SeenLine → Type 0
  Same = LineSame book book' samples samples'

  abbrev Inferred : SeenLine → Type 0
  Inferred = LineInferred book book' samples samples'

  abbrev First : SeenLine → LineMeaning → Type 0
  First = After book book' samples samples'

  abbrev Second : SeenLine → LineMeaning → Type 0
  Second = After' book book' samples samples'

  -- if a vread made a vgetrandom call in both books, then the vread's meanings in the two books are alike
  vgetrandom_alike : (n flags : ℕ) (line : SeenLine) (acts : List BoundAct) (m m' : CallMeaning) →
      OfCall Same (vread_call n flags line acts) → EachOfCall First (vread_call n flags line acts) m →
      EachOfCall Second (vread_call n flags line acts) m' → SameCaller H m.before m'.before →
      NeverFall (looks_of m.own.effects) → ByVgetrandom n flags acts m → ByVgetrandom n flags acts m' →
      Alike (vread_call n flags line acts) m m'
  vgetrandom_alike n flags line acts m m' same p p' before fall v v' =
      let set = m.before.setting in
      let S : Setting → Type 0 = λ x. Shows x v'.steps m'.own.effects in
      let c = call_alike book book' (maker line) set acts n flags (current_state m.before) (current_state m'.before)
      (same_current H m.before m'.before before) v.steps v'.steps v.outcome v'.outcome m.own.effects m'.own.effects
      v.is_call v'.is_call v.shows (subst S (sym before.setting) v'.shows)
      (same_at book book' (maker line) p.0 p'.0 same.0) fall v.wipes v'.wipes in
      let A : Setting → Type 0 = λ x. ActsMean x (is_reached (points_of v'.steps)) acts m'.acts in
      let B : List PointReached → Type 0 = λ x. ActsMean set (is_reached x) acts m'.acts in
      let acts_same = acts_alike book book' samples samples' set (is_reached (points_of v.steps)) acts m.acts m'.acts
      same.1 p.1 p'.1 v.inside (subst B (sym c.points) (subst A (sym before.setting) v'.inside)) in
      record {
        inferred = (inferred_at book book' (maker line) p.0 p'.0 c.inferred, acts_same.inferred);
        entries = v.entries ∙ c.outcome.entries ∙ sym v'.entries;
        after = callers_at H m.after m'.after _ _ v.after v'.after
            (same_with_state H m.before m'.before before v.outcome.state v'.outcome.state c.outcome.state);
        equal = λ h. (let d = effects_equal book book' samples samples' line m.own m'.own p.0 p'.0 h in
            let o : v.outcome ≡ v'.outcome = c.outcome.equal h in
            let answer : m.own.answer ≡ m'.own.answer = v.answer ∙ ap (λ (x : Outcome). ending_answer x.ending) o
            ∙ sym v'.answer in
            let shown : m.own.shown ≡ m'.own.shown = v.shown ∙ ap (λ (x : Outcome). ending_shown x.ending) o
            ∙ sym v'.shown in
            let acts : m.acts ≡ m'.acts = acts_same.equal h in
            let entries : m.entries ≡ m'.entries = v.entries ∙ c.outcome.entries ∙ sym v'.entries in
            let left : with_state m.before v.outcome.state ≡ with_state m'.before v'.outcome.state =
            λ i. with_state (before.equal h i) (o i).state in
            let after : m.after ≡ m'.after = v.after ∙ left ∙ sym v'.after in
            λ i. record {
              own = record { effects = d i; answer = answer i; shown = shown i };
              acts = acts i;
              entries = entries i;
              before = before.equal h i;
              after = after i;
            });
      }

  none_inside : (acts : List BoundAct) (ms : List LineMeaning) → EachAct First acts ms → ms ≡ [] → acts ≡ []
  none_inside [] ms each p = refl
  none_inside (bound ∷ acts) [] each p = absurd each
  none_inside (bound ∷ acts) (m ∷ ms) each p = cc

  -- if a copy served a vread in both books, then the vread's meanings in the two books are alike
  local_alike : (n flags g g' : ℕ) (rest rest' : List Effect) (line : SeenLine) (acts : List BoundAct)
      (m m' : CallMeaning) →
      EachOfCall First (vread_call n flags line acts) m → EachOfCall Second (vread_call n flags line acts) m' →
      SameCaller H m.before m'.before → m.own.effects ≡ looked g ∷ rest → m'.own.effects ≡ looked g' ∷ rest' →
      ByLocalCopy n rest m → ByLocalCopy n rest' m' → Alike (vread_call n flags line acts) m m'
  local_alike n flags g g' rest rest' line acts m m' p p' before q q' v v' =
      let state = same_current H m.before m'.before before in
      let entries : m.entries ≡ m'.entries = v.entries
      ∙ same_entries H 0 n (current_state m.before) (current_state m'.before)
      state ∙ sym v'.entries in
      let T : List BoundAct → Type 0 = λ x. AllByRecursion (λ bound. Inferred bound.line) x in
      record {
        inferred = (
          inferred_at book book' (maker line) (p.0 ∙ q ∙ ap (λ x. looked g ∷ x) v.no_more)
              (p'.0 ∙ q' ∙ ap (λ x. looked g' ∷ x) v'.no_more) (tt, tt),
          subst T (sym (none_inside acts m.acts p.1 v.no_acts)) tt,
        );
        entries = entries;
        after = callers_at H m.after m'.after _ _ v.after v'.after
            (same_with_state H m.before m'.before before _ _
            (same_copy H 0 n (current_state m.before) (current_state m'.before) state));
        equal = λ h. (let d = effects_equal book book' samples samples' line m.own m'.own p.0 p'.0 h in
            let answer : m.own.answer ≡ m'.own.answer = v.answer ∙ sym v'.answer in
            let shown : m.own.shown ≡ m'.own.shown = v.shown
            ∙ ap (λ s. bytes_or_none (copy_bytes s 0 n)) (state.equal h)
            ∙ sym v'.shown in
            let acts : m.acts ≡ m'.acts = v.no_acts ∙ sym v'.no_acts in
            let after : m.after ≡ m'.after = v.after
            ∙ ap (λ s. with_state s (state_after_copy (current_state s) 0 n)) (before.equal h) ∙ sym v'.after in
            λ i. record {
              own = record { effects = d i; answer = answer i; shown = shown i };
              acts = acts i;
              entries = entries i;
              before = before.equal h i;
              after = after i;
            });
      }

  same_service : (g g' n : ℕ) (s s' : VgetrandomState) → g ≡ g' → SameState H s s' →
      serves_locally (published_by g) s n ≡ serves_locally (published_by g') s' n
  same_service g g' n s s' q same = λ i. serves_locally (published_by (q i))
      (record wiped_state { generation = same.generation i; pos = same.pos i; in_use = same.in_use i }) n

  vread_alike : (n flags : ℕ) (line : SeenLine) (acts : List BoundAct) (m m' : CallMeaning) →
      OfCall Same (vread_call n flags line acts) → EachOfCall First (vread_call n flags line acts) m →
      EachOfCall Second (vread_call n flags line acts) m' → SameCaller H m.before m'.before →
      VreadMeans n flags acts m → VreadMeans n flags acts m' → Alike (vread_call n flags line acts) m m'
  vread_alike n flags line acts m m' same p p' before v v' =
      match_both (Looked (LocalOrCall n flags acts m) m.own.effects) (ByVgetrandom n flags acts m)
      (Looked (LocalOrCall n flags acts m') m'.own.effects) (ByVgetrandom n flags acts m')
      (Alike (vread_call n flags line acts) m m') (tries_local n flags acts) (tries_local n flags acts) refl
      (λ tries x y. let s = same_at book book' (maker line) (p.0 ∙ x.2) (p'.0 ∙ y.2) same.0 in
      match_both (ByLocalCopy n x.1 m) (ByVgetrandom n flags acts m) (ByLocalCopy n y.1 m')
      (ByVgetrandom n flags acts m')
      (Alike (vread_call n flags line acts) m m') (serves_locally (published_by x.0) (current_state m.before) n)
      (serves_locally (published_by y.0) (current_state m'.before) n)
      (same_service x.0 y.0 n (current_state m.before) (current_state m'.before) s.0
      (same_current H m.before m'.before before))
      (λ is c c'. local_alike n flags x.0 y.0 x.1 y.1 line acts m m' p p' before x.2 y.2 c c')
      (λ is c c'. vgetrandom_alike n flags line acts m m' same p p' before v.looks c c')
      x.3 y.3)
      (λ no x y. vgetrandom_alike n flags line acts m m' same p p' before v.looks x y)
      v.done_by v'.done_by

  meaning_alike : (call : Call) (m m' : CallMeaning) → OfCall Same call → EachOfCall First call m →
      EachOfCall Second call m' → SameCaller H m.before m'.before → Means call m → Means call m' → Alike call m m'
  meaning_alike (alone event line) m m' same p p' before a a' =
      alone_alike book book' samples samples' event line m m' same p p' before a a'
  meaning_alike (vread_call n flags line acts) m m' same p p' before a a' =
      vread_alike n flags line acts m m' same p p' before a a'
  meaning_alike (unbound bound) m m' same p p' before a a' =
      unbound_alike book book' samples samples' bound m m' p p' before a a'
  meaning_alike (ending line) m m' same p p' before a a' =
      ending_alike book book' samples samples' line m m' same p p' before a a'

  -- `ms` and `ms'`, the meanings of one caller's calls in the two books, are alike
  pub record CallsAlike (calls : List Call) (ms ms' : List CallMeaning) : Type 0 where
    pub inferred : AllByRecursion (OfCall Inferred) calls
    pub entries : (k : ℕ) → entries_of_state k ms ≡ entries_of_state k ms'
    pub equal : H → ms ≡ ms'

  pub calls_alike : (s s' : CallerState) (calls : List Call) (ms ms' : List CallMeaning) → SameCaller H s s' →
      AllByRecursion (OfCall Same) calls → EachLine First calls ms → EachLine Second calls ms' →
      CallsMean s calls ms → CallsMean s' calls ms' → CallsAlike calls ms ms'
  calls_alike s s' [] [] [] at same p p' c c' = record { inferred = tt; entries = λ k. refl; equal = λ h. refl }
  calls_alike s s' [] [] (m' ∷ ms') at same p p' c c' = absurd p'
  calls_alike s s' [] (m ∷ ms) ms' at same p p' c c' = absurd p
  calls_alike s s' (call ∷ calls) [] ms' at same p p' c c' = absurd p
  calls_alike s s' (call ∷ calls) (m ∷ ms) [] at same p p' c c' = absurd p'
  calls_alike s s' (call ∷ calls) (m ∷ ms) (m' ∷ ms') at same p p' c c' =
      let before = callers_at H m.before m'.before s s' c.0 c'.0 at in
      let here = meaning_alike call m m' same.0 p.0 p'.0 before c.1 c'.1 in
      let rest = calls_alike m.after m'.after calls ms ms' here.after same.1 p.1 p'.1 c.2 c'.2 in
      record {
        inferred = (here.inferred, rest.inferred);
        entries = λ k. ap (λ x. (if x == k then m.entries else []) ++ entries_of_state k ms) before.current
            ∙ ap (λ es. (if m'.before.current == k then es else []) ++ entries_of_state k ms) here.entries
            ∙ ap (λ es. (if m'.before.current == k then m'.entries else []) ++ es) (rest.entries k);
        equal = λ h. ap (λ x. x ∷ ms) (here.equal h) ∙ ap (λ xs. m' ∷ xs) (rest.equal h);
      }
