-- The book and the meanings that a transcript's steps make do not depend on the transcript's answers and data.
use Rattle.std.proofs.Common.{◌≡◌, ℕ, suc, Bool, true, false, List, [], ◌∷◌, length, map, refl, sym, subst, ap, ◌∙◌}
use Rattle.std.specs.Prelude.{◌==◌, ◌&&◌, ◌||◌, not, MatchBool}
use Rattle.std.specs.List.{AllByRecursion}
use Rattle.std.proofs.lemmas.List.{length-map}
use Rattle.key_names.specs.declared.names.Step.{Step}
use Rattle.key_names.specs.declared.events.Event.{Event}
use Rattle.key_names.specs.declared.events.Word.{Word}
use Rattle.key_names.specs.declared.events.Word.TheVariants.{End as EndWord}
use Rattle.key_names.specs.declared.point.Point.{Point}
use Rattle.key_names.specs.Lanes.Book.{Lists, lists_of}
use Rattle.key_names.specs.Callers.Calls.{Setting, Call, alone, vread_call, unbound, ending, BoundAct}
use Rattle.key_names.specs.Callers.Effects.{Effect, effects_of}
use Rattle.key_names.specs.Kernel.Flags.{is_bad}
use Rattle.key_names.specs.Callers.History.{caller_orders, stamps_of}
use Rattle.key_names.specs.Transcripts.SeenLine.{SeenLine}
use Rattle.key_names.specs.Texts.ScriptGrammar.{event_word}
use Rattle.key_names.specs.Kernel.Points.{is_same_point}
use Rattle.key_names.specs.Callers.VreadSteps.{PointReached, points_of, first_points, is_wiped, is_wipe}
use Rattle.key_names.specs.Callers.VreadSteps.{is_reached, published_by}
use Rattle.key_names.specs.Callers.Meaning.{CallerState, caller_start, current_state, LineMeaning, CallMeaning, AloneMeans}
use Rattle.key_names.specs.Callers.Meaning.{ActMeans, ActsMean, unused_line, ByVgetrandom, tries_local, LocalOrCall}
use Rattle.key_names.specs.Callers.Meaning.{VreadMeans, Means}
use Rattle.key_names.specs.Kernel.BatchCopy.{serves_locally}
use Rattle.key_names.specs.Transcripts.IsTranscript.{LineIs, LinesFit, EachCaller, script_calls, MarkBy, all_marks, lane_marks}
use Rattle.key_names.specs.Transcripts.IsTranscript.{PlacesConform, Rises, VisitsAre, CallsMean, EachAct, EachOfCall, EachLine}
use Rattle.key_names.specs.Transcripts.IsTranscript.{CallerMeans, start_setting}
use Rattle.key_names.specs.Transcripts.SameSteps.{bare, SameSteps, StepsMakeTheBook}
use Rattle.key_names.proofs.Lists.Each.{each_weaker}
use Rattle.key_names.proofs.Unique.BareLines.{bare_act, bare_call, bare_all, bare_marks, bare_orders, bare_setting}

head : {X : Type 0} (x y : X) (xs ys : List X) → x ∷ xs ≡ y ∷ ys → x ≡ y
head x y xs ys e = cc

tail : {X : Type 0} (x y : X) (xs ys : List X) → x ∷ xs ≡ y ∷ ys → xs ≡ ys
tail x y xs ys e = cc

both_ways : {A B A' B' : Type 0} (b c : Bool) → b ≡ c → (A → A') → (B → B') → MatchBool b A B → MatchBool c A' B'
both_ways true true e f g h = f h
both_ways true false e f g h = cc
both_ways false true e f g h = cc
both_ways false false e f g h = g h

-- If lines differ only in answers and data, they fit the same script

module _ (word : Word) (c n : ℕ) where
  line_is : (l k : SeenLine) → bare l ≡ bare k → LineIs c n word l → LineIs c n word k
  line_is l k e is = record {
    caller = sym (ap (λ (x : SeenLine). x.caller) e) ∙ is.caller;
    event = sym (ap (λ (x : SeenLine). x.event) e) ∙ is.event;
    word_is = sym (ap (λ (x : SeenLine). x.word) e) ∙ is.word_is;
  }

lines_fit : (c n : ℕ) (events : List Event) (ls ks : List SeenLine) → map bare ls ≡ map bare ks →
    LinesFit c n events ls → LinesFit c n events ks
lines_fit c n [] [] ks e fit = absurd fit
lines_fit c n [] (l ∷ []) [] e fit = cc
lines_fit c n [] (l ∷ []) (k ∷ []) e fit = line_is EndWord c n l k (head (bare l) (bare k) [] [] e) fit
lines_fit c n [] (l ∷ []) (k ∷ k' ∷ ks) e fit = cc
lines_fit c n [] (l ∷ l' ∷ ls) ks e fit = absurd fit
lines_fit c n (event ∷ events) [] ks e fit = absurd fit
lines_fit c n (event ∷ events) (l ∷ ls) [] e fit = cc
lines_fit c n (event ∷ events) (l ∷ ls) (k ∷ ks) e fit = (
  line_is (event_word event) c n l k (head (bare l) (bare k) (map bare ls) (map bare ks) e) fit.0,
  lines_fit c (suc n) events ls ks (tail (bare l) (bare k) (map bare ls) (map bare ks) e) fit.1,
)

has_lines : (c : ℕ) (callers : List (List Event)) (t u : List (List SeenLine)) → SameSteps t u →
    EachCaller (λ c events lines. LinesFit c 0 events lines) c callers t →
    EachCaller (λ c events lines. LinesFit c 0 events lines) c callers u
has_lines c [] [] [] e has = tt
has_lines c [] [] (ks ∷ u) e has = cc
has_lines c [] (ls ∷ t) u e has = absurd has
has_lines c (es ∷ callers) [] u e has = absurd has
has_lines c (es ∷ callers) (ls ∷ t) [] e has = cc
has_lines c (es ∷ callers) (ls ∷ t) (ks ∷ u) e has = (
  lines_fit c 0 es ls ks (head (map bare ls) (map bare ks) (map (map bare) t) (map (map bare) u) e) has.0,
  has_lines (suc c) callers t u (tail (map bare ls) (map bare ks) (map (map bare) t) (map (map bare) u) e) has.1,
)

-- If the lines of acts differ only in answers and data, the same meanings are allowed for the acts

wiped_bare : (acts : List BoundAct) (point : Point) → is_wiped (map bare_act acts) point ≡ is_wiped acts point
wiped_bare [] point = refl
wiped_bare (bound ∷ acts) point =
    ap (λ (b : Bool). (is_same_point bound.point point && is_wipe bound.act) || b) (wiped_bare acts point)

acts_mean : (set : Setting) (points : List PointReached) (acts others : List BoundAct) (ms : List LineMeaning) →
    map bare_act acts ≡ map bare_act others → ActsMean set (is_reached points) acts ms →
    ActsMean set (is_reached points) others ms
acts_mean set points [] [] [] e h = tt
acts_mean set points [] [] (m ∷ ms) e h = absurd h
acts_mean set points [] (b ∷ others) ms e h = cc
acts_mean set points (a ∷ acts) [] ms e h = cc
acts_mean set points (a ∷ acts) (b ∷ others) [] e h = absurd h
acts_mean set points (a ∷ acts) (b ∷ others) (m ∷ ms) e h =
    let one : bare_act a ≡ bare_act b = head (bare_act a) (bare_act b) (map bare_act acts) (map bare_act others) e in
    let P : BoundAct → Type 0 = λ x. MatchBool (is_reached points x) (ActMeans set x.act m) (m ≡ unused_line) in (
      subst P one h.0,
      acts_mean set points acts others ms (tail (bare_act a) (bare_act b) (map bare_act acts) (map bare_act others) e)
          h.1,
    )

each_act : (P : SeenLine → LineMeaning → Type 0) → ((l k : SeenLine) (m : LineMeaning) → bare l ≡ bare k → P l m → P k m) →
    (acts others : List BoundAct) (ms : List LineMeaning) → map bare_act acts ≡ map bare_act others →
    EachAct P acts ms → EachAct P others ms
each_act P same [] [] [] e h = tt
each_act P same [] [] (m ∷ ms) e h = absurd h
each_act P same [] (b ∷ others) ms e h = cc
each_act P same (a ∷ acts) [] ms e h = cc
each_act P same (a ∷ acts) (b ∷ others) [] e h = absurd h
each_act P same (a ∷ acts) (b ∷ others) (m ∷ ms) e h = (
  same a.line b.line m
      (ap (λ (x : BoundAct). x.line) (head (bare_act a) (bare_act b) (map bare_act acts) (map bare_act others) e)) h.0,
  each_act P same acts others ms (tail (bare_act a) (bare_act b) (map bare_act acts) (map bare_act others) e) h.1,
)

-- If the lines of calls differ only in answers and data, the same meanings are allowed for the calls

module _ (n flags : ℕ) (acts others : List BoundAct) (e : map bare_act acts ≡ map bare_act others) (m : CallMeaning) where
  wiped_same : (point : Point) → is_wiped acts point ≡ is_wiped others point
  wiped_same point =
      sym (wiped_bare acts point) ∙ ap (λ (a : List BoundAct). is_wiped a point) e ∙ wiped_bare others point

  long_same : length acts ≡ length others
  long_same =
      sym (length-map acts bare_act) ∙ ap (λ (a : List BoundAct). length a) e ∙ length-map others bare_act

  by_call : ByVgetrandom n flags acts m → ByVgetrandom n flags others m
  by_call by = record {
    steps = by.steps;
    outcome = by.outcome;
    is_call = by.is_call;
    shows = by.shows;
    wipes = record {
      first = each_weaker (λ reached. reached.wiped ≡ is_wiped acts reached.point)
          (λ reached. reached.wiped ≡ is_wiped others reached.point) (first_points (points_of by.steps))
          (λ reached is. is ∙ wiped_same reached.point) by.wipes.first;
      second = by.wipes.second;
    };
    inside = acts_mean m.before.setting (points_of by.steps) acts others m.acts e by.inside;
    answer = by.answer;
    shown = by.shown;
    entries = by.entries;
    after = by.after;
  }

  reads_alike : VreadMeans n flags acts m → VreadMeans n flags others m
  reads_alike r = record {
    looks = r.looks;
    done_by = both_ways (tries_local n flags acts) (tries_local n flags others)
        (ap (λ (k : ℕ). k == 0 && (not (n == 0) && not (is_bad flags))) long_same)
        (λ w. (w.0, w.1, w.2, local w.0 w.1 w.3)) by_call r.done_by;
  }
    where
      local : (look : ℕ) (rest : List Effect) → LocalOrCall n flags acts m look rest → LocalOrCall n flags others m look rest
      local look rest w =
          let b : Bool = serves_locally (published_by look) (current_state m.before) n in
          both_ways b b refl (λ c. c) by_call w

means_same : (c d : Call) (m : CallMeaning) → bare_call c ≡ bare_call d → Means c m → Means d m
means_same (alone event l) (alone event' k) m e h =
    let same : event ≡ event' = cc in subst (λ x. AloneMeans x m) same h
means_same (vread_call n flags l acts) (vread_call n' flags' k others) m e h =
    let p : n ≡ n' = cc in let q : flags ≡ flags' = cc in let r : map bare_act acts ≡ map bare_act others = cc in
    subst (λ (x : ℕ). VreadMeans x flags' others m) p
    (subst (λ (x : ℕ). VreadMeans n x others m) q (reads_alike n flags acts others r m h))
means_same (unbound a) (unbound b) m e h = h
means_same (ending l) (ending k) m e h = h
means_same (alone event l) (vread_call n flags k acts) m e h = cc
means_same (alone event l) (unbound b) m e h = cc
means_same (alone event l) (ending k) m e h = cc
means_same (vread_call n flags l acts) (alone event k) m e h = cc
means_same (vread_call n flags l acts) (unbound b) m e h = cc
means_same (vread_call n flags l acts) (ending k) m e h = cc
means_same (unbound a) (alone event k) m e h = cc
means_same (unbound a) (vread_call n flags k acts) m e h = cc
means_same (unbound a) (ending k) m e h = cc
means_same (ending l) (alone event k) m e h = cc
means_same (ending l) (vread_call n flags k acts) m e h = cc
means_same (ending l) (unbound b) m e h = cc

calls_mean : (s : CallerState) (cs ds : List Call) (ms : List CallMeaning) → map bare_call cs ≡ map bare_call ds →
    CallsMean s cs ms → CallsMean s ds ms
calls_mean s [] [] [] e h = tt
calls_mean s [] [] (m ∷ ms) e h = absurd h
calls_mean s [] (d ∷ ds) ms e h = cc
calls_mean s (c ∷ cs) [] ms e h = cc
calls_mean s (c ∷ cs) (d ∷ ds) [] e h = absurd h
calls_mean s (c ∷ cs) (d ∷ ds) (m ∷ ms) e h = (
  h.0,
  means_same c d m (head (bare_call c) (bare_call d) (map bare_call cs) (map bare_call ds) e) h.1,
  calls_mean m.after cs ds ms (tail (bare_call c) (bare_call d) (map bare_call cs) (map bare_call ds) e) h.2,
)

module _ (P : SeenLine → LineMeaning → Type 0)
    (same : (l k : SeenLine) (m : LineMeaning) → bare l ≡ bare k → P l m → P k m) where
  of_call : (c d : Call) (m : CallMeaning) → bare_call c ≡ bare_call d → EachOfCall P c m → EachOfCall P d m
  of_call (alone event l) (alone event' k) m e h = let p : bare l ≡ bare k = cc in same l k m.own p h
  of_call (vread_call n flags l acts) (vread_call n' flags' k others) m e h =
      let p : bare l ≡ bare k = cc in let r : map bare_act acts ≡ map bare_act others = cc in
      (same l k m.own p h.0, each_act P same acts others m.acts r h.1)
  of_call (unbound a) (unbound b) m e h =
      let p : bare_act a ≡ bare_act b = cc in same a.line b.line m.own (ap (λ (x : BoundAct). x.line) p) h
  of_call (ending l) (ending k) m e h = let p : bare l ≡ bare k = cc in same l k m.own p h
  of_call (alone event l) (vread_call n flags k acts) m e h = cc
  of_call (alone event l) (unbound b) m e h = cc
  of_call (alone event l) (ending k) m e h = cc
  of_call (vread_call n flags l acts) (alone event k) m e h = cc
  of_call (vread_call n flags l acts) (unbound b) m e h = cc
  of_call (vread_call n flags l acts) (ending k) m e h = cc
  of_call (unbound a) (alone event k) m e h = cc
  of_call (unbound a) (vread_call n flags k acts) m e h = cc
  of_call (unbound a) (ending k) m e h = cc
  of_call (ending l) (alone event k) m e h = cc
  of_call (ending l) (vread_call n flags k acts) m e h = cc
  of_call (ending l) (unbound b) m e h = cc

  each_line : (cs ds : List Call) (ms : List CallMeaning) → map bare_call cs ≡ map bare_call ds → EachLine P cs ms →
      EachLine P ds ms
  each_line [] [] [] e h = tt
  each_line [] [] (m ∷ ms) e h = absurd h
  each_line [] (d ∷ ds) ms e h = cc
  each_line (c ∷ cs) [] ms e h = cc
  each_line (c ∷ cs) (d ∷ ds) [] e h = absurd h
  each_line (c ∷ cs) (d ∷ ds) (m ∷ ms) e h = (
    of_call c d m (head (bare_call c) (bare_call d) (map bare_call cs) (map bare_call ds) e) h.0,
    each_line cs ds ms (tail (bare_call c) (bare_call d) (map bare_call cs) (map bare_call ds) e) h.1,
  )

-- If transcripts differ only in answers and data, their steps make the same book

module _ (lists : Lists) where
  effects_same : (l k : SeenLine) (m : LineMeaning) → bare l ≡ bare k → effects_of lists l.steps ≡ m.effects →
      effects_of lists k.steps ≡ m.effects
  effects_same l k m e is = sym (ap (λ (x : SeenLine). effects_of lists x.steps) e) ∙ is

  caller_means : (set : Setting) (cs ds : List Call) (ms : List CallMeaning) → map bare_call cs ≡ map bare_call ds →
      CallerMeans lists set cs ms → CallerMeans lists set ds ms
  caller_means set cs ds ms e h = record {
    follows = calls_mean (caller_start set) cs ds ms e h.follows;
    effects = each_line (λ line m. effects_of lists line.steps ≡ m.effects) effects_same cs ds ms e h.effects;
  }

  module _ (first second : ℕ → Setting) (sets : (c : ℕ) → first c ≡ second c) where
    callers_mean : (k : ℕ) (css dss : List (List Call)) (mss : List (List CallMeaning)) →
        map (map bare_call) css ≡ map (map bare_call) dss →
        EachCaller (λ c calls ms. CallerMeans lists (first c) calls ms) k css mss →
        EachCaller (λ c calls ms. CallerMeans lists (second c) calls ms) k dss mss
    callers_mean k [] [] [] e h = tt
    callers_mean k [] [] (ms ∷ mss) e h = absurd h
    callers_mean k [] (ds ∷ dss) mss e h = cc
    callers_mean k (cs ∷ css) [] mss e h = cc
    callers_mean k (cs ∷ css) (ds ∷ dss) [] e h = absurd h
    callers_mean k (cs ∷ css) (ds ∷ dss) (ms ∷ mss) e h = (
      subst (λ (set : Setting). CallerMeans lists set ds ms) (sets k)
          (caller_means (first k) cs ds ms
          (head (map bare_call cs) (map bare_call ds) (map (map bare_call) css) (map (map bare_call) dss) e) h.0),
      callers_mean (suc k) css dss mss
          (tail (map bare_call cs) (map bare_call ds) (map (map bare_call) css) (map (map bare_call) dss) e) h.1,
    )

pub steps_make_the_book : StepsMakeTheBook
steps_make_the_book script t u same made = (
  record {
    book = made.book;
    meanings = made.meanings;
    lines = has_lines 0 script.callers t u same made.lines;
    marks = record {
      lanes = λ lane. subst (λ (ms : List MarkBy). PlacesConform (lane_marks lane ms)) marks (made.marks.lanes lane);
      callers = subst (λ (orders : List (List Step)). AllByRecursion (λ order. Rises (stamps_of order)) orders) orders
          made.marks.callers;
    };
    forms = record {
      cpus = made.forms.cpus;
      visits = subst (VisitsAre made.book) marks made.forms.visits;
      callers = callers_mean (lists_of made.book) (start_setting (script_calls script t))
          (start_setting (script_calls script u)) settings 0 (script_calls script t) (script_calls script u)
          made.meanings calls made.forms.callers;
      states = made.forms.states;
      lanes = made.forms.lanes;
      samples = made.forms.samples;
    };
  },
  refl,
  refl,
)
  where
    marks : all_marks t ≡ all_marks u
    marks = sym (bare_marks t) ∙ ap all_marks same ∙ bare_marks u

    calls : map (map bare_call) (script_calls script t) ≡ map (map bare_call) (script_calls script u)
    calls = sym (bare_all script.callers t) ∙ ap (script_calls script) same ∙ bare_all script.callers u

    orders : caller_orders (script_calls script t) ≡ caller_orders (script_calls script u)
    orders = sym (bare_orders (script_calls script t)) ∙ ap caller_orders calls ∙ bare_orders (script_calls script u)

    settings : (c : ℕ) → start_setting (script_calls script t) c ≡ start_setting (script_calls script u) c
    settings c = sym (bare_setting (script_calls script t) c) ∙ ap (λ (x : List (List Call)). start_setting x c) calls
        ∙ bare_setting (script_calls script u) c
