-- For the caller `c`, the loop over callers uses this caller's calls, settings and notes.
use Rattle.std.proofs.Common.{◌≡◌, ℕ, zero, suc, ◌+◌, ◌<◌, Some, List, [], ◌∷◌, ◌++◌, length, get_or, map, sym, subst, ap, ◌∙◌, arith}
use Rattle.std.specs.Prelude.{slice_get}
use Rattle.std.specs.List.{AllByRecursion}
use Rattle.std.specs.Global.{Vec}
use Rattle.std.proofs.lemmas.List.{map-append, length-map}
use mathlib.Core.Logic.{dite}
use native.Mathlib.Decide.{ℕ_discrete}
use Rattle.key_names.specs.Lanes.Book.{Lists, list_at}
use Rattle.key_names.specs.Callers.Calls.{Setting, Call}
use Rattle.key_names.specs.Transcripts.IsTranscript.{start_setting, script_calls}
use Rattle.key_names.specs.Texts.ScriptGrammar.{Script}
use Rattle.key_names.specs.Transcripts.SeenLine.{SeenLine}
use Rattle.key_names.proofs.History.CallerOrders.{list_front, list_last}
use Rattle.key_names.proofs.Lists.ListFacts.{at_list}
use Rattle.judge_lines.specs.declared.called.CalledLines.{CalledLines}
use Rattle.judge_lines.specs.Called.{seen_call, seen_calls}
use Rattle.judge_lines.specs.Settings.{settings_from}
use Rattle.judge_lines.proofs.SettingsFound.{list_found}
use Rattle.judge_log.specs.declared.said.MadeLine.{MadeLine}
use Rattle.judge_log.specs.Said.{NotedAt, CallInRange, IsSaid}
use Rattle.serial_replay.specs.Remade.{CallersConform, said_lists}
use Rattle.serial_replay.proofs.Callers.{CallsOf, calls_of_caller}

pub found_at : {X : Type 0} (xs : List X) (i : ℕ) (x : X) → i < length xs → x ≡ get_or xs i x → slice_get xs i ≡ Some x
found_at [] i x low is = absurd (omega arith)
found_at (y ∷ xs) zero x low is = ap Some (sym is)
found_at (y ∷ xs) (suc i) x low is = found_at xs i x (omega arith) is

module _ (callers : List (Vec CalledLines)) (settings : List (Vec Setting)) (c : ℕ) (calls : Vec CalledLines) (found : Vec Setting)
    (low : c < length callers) (calls_is : calls ≡ get_or callers c calls) (long : length settings ≡ length callers)
    (found_is : found ≡ get_or settings c found) where
  pub here : map seen_call calls.items ≡ list_at (seen_calls callers) c
  here = list_found callers c calls low calls_is

  pub among : c < length (seen_calls callers)
  among =
      let e : length (seen_calls callers) ≡ length callers =
      length-map callers (λ (calls : Vec CalledLines). map seen_call calls.items) in
      omega arith

  pub range_of : AllByRecursion (AllByRecursion CallInRange) (seen_calls callers) →
      AllByRecursion CallInRange (map seen_call calls.items)
  range_of all = subst (AllByRecursion CallInRange) (sym here)
      (at_list (AllByRecursion CallInRange) (seen_calls callers) c among all)

  module _ (script : Script) (t : List (List SeenLine)) (conform : CallersConform script t (seen_calls callers) settings) where
    pub calls_of : CallsOf (map seen_call calls.items)
    calls_of =
        let whole : CallsOf (list_at (script_calls script t) c) =
        calls_of_caller 0 script.callers t conform.lines conform.fit c
        (subst (λ (cs : List (List Call)). c < length cs) conform.calls among) in
        subst CallsOf (ap (λ (cs : List (List Call)). list_at cs c) (sym conform.calls) ∙ sym here) whole

    pub settings_are : found.items ≡ settings_from (start_setting (seen_calls callers) c) (map seen_call calls.items)
    settings_are =
        conform.found.each c found (found_at settings c found (omega arith) found_is)
        ∙ ap (settings_from (start_setting (seen_calls callers) c)) (sym here)

-- if the notes of the first `n` callers are right, they stay right when the notes of one more caller are added
module _ {Noted : Type 0} (IsNoted : ℕ → ℕ → MadeLine → Noted → Type 0) (lists : Lists) (callers : List (List Call))
    (said : List (Vec Noted)) (n : ℕ) (more : Vec Noted) (long : length said ≡ n) where
  abbrev IsSaidBy : ℕ → List Noted → Type 0
  IsSaidBy c notes = IsSaid lists (start_setting callers c) (list_at callers c) (NotedAt (IsNoted c) notes)

  abbrev SaidAt : List (Vec Noted) → ℕ → Type 0
  SaidAt all c = IsSaidBy c (list_at (said_lists all) c)

  lists_more : said_lists (said ++ more ∷ []) ≡ said_lists said ++ more.items ∷ []
  lists_more = map-append (λ (s : Vec Noted). s.items) said (more ∷ [])

  lists_long : length (said_lists said) ≡ n
  lists_long = length-map said (λ (s : Vec Noted). s.items) ∙ long

  pub said_more : ((c : ℕ) → c < n → SaidAt said c) →
      IsSaidBy n more.items → (c : ℕ) → c < n + 1 → SaidAt (said ++ more ∷ []) c
  said_more before here c low = dite (ℕ_discrete c n)
      (λ e. subst (IsSaidBy c)
      (sym (ap (λ (ss : List (List Noted)). list_at ss c) lists_more
      ∙ ap (list_at (said_lists said ++ more.items ∷ [])) (e ∙ sym lists_long)
      ∙ list_last (said_lists said) more.items))
      (subst (λ m. IsSaidBy m more.items) (sym e) here))
      (λ ne. subst (IsSaidBy c)
      (sym (ap (λ (ss : List (List Noted)). list_at ss c) lists_more
      ∙ list_front (said_lists said) more.items c (let l = lists_long in omega arith)))
      (before c (omega arith)))
