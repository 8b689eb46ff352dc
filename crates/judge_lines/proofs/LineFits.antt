-- The lines of a caller are the required lines exactly if its first line is the required line and its other lines are
-- the required lines. The same holds caller by caller.
use Rattle.std.proofs.Common.{◌≡◌, ℕ, suc, ◌+◌, ◌<◌, List, [], ◌∷◌, length, get_or, drop, map, refl, sym, subst, arith, add-one, Some}
use Rattle.std.specs.Prelude.{◌↔◌, slice_get}
use Rattle.std.proofs.lemmas.List.{at_drop_all}
use Rattle.std.specs.Global.{Vec}
use Rattle.key_names.specs.declared.events.Event.{Event}
use Rattle.key_names.specs.declared.events.Word.TheVariants.{End as EndWord}
use Rattle.key_names.specs.Texts.ScriptGrammar.{event_word}
use Rattle.key_names.specs.Transcripts.SeenLine.{SeenLine}
use Rattle.key_names.specs.Transcripts.IsTranscript.{LineIs, LinesFit, EachCaller}
use Rattle.key_names.proofs.Lists.ListFacts.{found_dropped}
use Rattle.judge_lines.specs.declared.bare.BareLine.{BareLine}
use Rattle.judge_lines.specs.Seen.{seen_bare, seen_callers}
use Rattle.judge_lines.proofs.Fronts.{dropped}

module _ (c n : ℕ) (es : List Event) (ls : List BareLine) where
  -- the lines from line n on are the required lines exactly if line n is the required line and the lines after it are
  -- too
  pub fits_more : (e : Event) (l : BareLine) → n < length es → n < length ls → e ≡ get_or es n e → l ≡ get_or ls n l →
      LinesFit c n (drop n es) (map seen_bare (drop n ls))
      ↔ LineIs c n (event_word e) (seen_bare l) × LinesFit c (n + 1) (drop (n + 1) es) (map seen_bare (drop (n + 1) ls))
  fits_more e l low low' is is' =
      rw (dropped es n e low is, dropped ls n l low' is', add-one) ((λ h. h), (λ h. h))

  -- the last line is the required line exactly if it is the line of the caller's end
  pub fits_last : (l : BareLine) (m : ℕ) → n ≡ m → length es ≡ m → length ls ≡ m + 1 → l ≡ get_or ls m l →
      LinesFit c n (drop n es) (map seen_bare (drop n ls)) ↔ LineIs c m EndWord (seen_bare l)
  fits_last l m same here long is =
      let none : drop n es ≡ [] = at_drop_all (λ x. x) es n (omega arith) in
      let at : l ≡ get_or ls n l = subst (λ k. l ≡ get_or ls k l) (sym same) is in
      let one : drop n ls ≡ l ∷ drop (n + 1) ls = dropped ls n l (omega arith) at in
      let no_more : drop (n + 1) ls ≡ [] = at_drop_all (λ x. x) ls (n + 1) (omega arith) in
      let both : LinesFit c n (drop n es) (map seen_bare (drop n ls)) ↔ LineIs c n EndWord (seen_bare l) =
      rw (none, one, no_more) ((λ h. h), (λ h. h)) in
      subst (λ k. LinesFit c n (drop n es) (map seen_bare (drop n ls)) ↔ LineIs c k EndWord (seen_bare l)) same both

abbrev CallerFits : ℕ → List Event → List SeenLine → Type 0
CallerFits c events lines = LinesFit c 0 events lines

pub callers_long : (c : ℕ) (ess : List (List Event)) (t : List (List SeenLine)) → EachCaller CallerFits c ess t →
    length t ≡ length ess
callers_long c [] [] fit = refl
callers_long c [] (ls ∷ t) fit = absurd fit
callers_long c (es ∷ ess) [] fit = absurd fit
callers_long c (es ∷ ess) (ls ∷ t) fit =
    let rest : length t ≡ length ess = callers_long (suc c) ess t fit.1 in omega arith

-- the callers from c on have the required lines exactly if caller c has, and all callers after c have
pub callers_more : (c : ℕ) (ess : List (List Event)) (t : List (Vec BareLine)) (es : List Event) (ls : Vec BareLine) →
    slice_get ess c ≡ Some es → c < length t → ls ≡ get_or t c ls →
    EachCaller CallerFits c (drop c ess) (seen_callers (drop c t))
    ↔ CallerFits c es (map seen_bare ls.items) × EachCaller CallerFits (c + 1) (drop (c + 1) ess) (seen_callers (drop (c + 1) t))
callers_more c ess t es ls is low is' =
    rw (found_dropped ess c es is, dropped t c ls low is', add-one) ((λ h. h), (λ h. h))
