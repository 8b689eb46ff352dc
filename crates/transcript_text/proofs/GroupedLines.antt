-- Lines in sequence stay grouped by caller (`Groups`) if one more line is added, and if a caller is finished.
use Rattle.std.proofs.Common.{◌≡◌, ℕ, suc, ◌+◌, ◌<◌, List, [], ◌∷◌, ◌++◌, length, refl, sym, ap, subst, ◌∙◌, append_assoc, append-nil, arith}
use Rattle.std.proofs.lemmas.List.{flat_map_more, map_push}
use Rattle.key_names.specs.Transcripts.SeenLine.{SeenLine}
use Rattle.key_names.specs.Texts.TranscriptGrammar.{all_lines, LastHasLines, TranscriptFits, UnderOwnNumber}
use Rattle.key_names.proofs.Lists.Each.{each_more}
use Rattle.transcript_text.specs.Grouping.{OfCaller, Groups, Gives, seen_callers}
use Rattle.transcript_text.specs.declared.caller_lines.CallerLines.{CallerLines}

pub UnderOwnNumber-push : (first : ℕ) (done : List (List SeenLine)) (lines : List SeenLine)
    → UnderOwnNumber first done → OfCaller (first + length done) lines
    → UnderOwnNumber first (done ++ lines ∷ [])
UnderOwnNumber-push first [] lines own here = let n : first + 0 ≡ first = omega arith in
    (subst (λ (c : ℕ). OfCaller c lines) n here, tt)
UnderOwnNumber-push first (d ∷ done) lines own here =
    let n : first + suc (length done) ≡ suc first + length done = omega arith in
    (own.0, UnderOwnNumber-push (suc first) done lines own.1 (subst (λ (c : ℕ). OfCaller c lines) n here))

pub all_lines-push : (done : List (List SeenLine)) (lines : List SeenLine)
    → all_lines (done ++ lines ∷ []) ≡ all_lines done ++ lines
all_lines-push done lines = sym (flat_map_more (λ (l : List SeenLine). l) [] done lines)

pub own_push : (done : List (List SeenLine)) (current : List SeenLine) → UnderOwnNumber 0 done
    → OfCaller (length done) current → UnderOwnNumber 0 (done ++ current ∷ [])
own_push done current own here = let n : length done ≡ 0 + length done = omega arith in
    UnderOwnNumber-push 0 done current own (subst (λ (c : ℕ). OfCaller c current) n here)

pub groups_next : (done next : List (List SeenLine)) (current lines : List SeenLine) → next ≡ done ++ current ∷ []
    → Groups done current lines → Groups next [] lines
groups_next done next current lines is g = record {
  done_own = rw is (own_push done current g.done_own g.current_own);
  current_own = tt;
  whole = append-nil (all_lines next) ∙ ap all_lines is ∙ all_lines-push done current ∙ g.whole;
}

pub groups_push : (done : List (List SeenLine)) (current lines new : List SeenLine) (line : SeenLine)
    → new ≡ current ++ line ∷ [] → line.caller ≡ length done
    → Groups done current lines → Groups done new (lines ++ line ∷ [])
groups_push done current lines new line is own g = record {
  done_own = g.done_own;
  current_own = rw is (each_more (λ l. l.caller ≡ length done) current line g.current_own own);
  whole = ap (λ (x : List SeenLine). all_lines done ++ x) is ∙ sym (append_assoc (all_lines done) current (line ∷ []))
      ∙ ap (λ (x : List SeenLine). x ++ line ∷ []) g.whole;
}

pub LastHasLines-push : (done : List (List SeenLine)) (current : List SeenLine) → 0 < length current
    → LastHasLines (done ++ current ∷ [])
LastHasLines-push [] current some = some
LastHasLines-push (d ∷ []) current some = some
LastHasLines-push (d ∷ e ∷ done) current some = LastHasLines-push (e ∷ done) current some

pub no_groups : Groups [] [] []
no_groups = record { done_own = tt; current_own = tt; whole = refl }

pub finished : (callers done : List (List SeenLine)) (current lines : List SeenLine) → callers ≡ done ++ current ∷ []
    → TranscriptFits callers → Groups done current lines
    → Gives callers lines
finished callers done current lines is fits g = record {
  fits = fits;
  own = rw is (own_push done current g.done_own g.current_own);
  all = ap all_lines is ∙ all_lines-push done current ∙ g.whole;
}

-- if `caller` is finished after the callers in `old`, its lines come after the lines of those callers
pub seen_callers-push : (old new : List CallerLines) (caller : CallerLines) (lines : List SeenLine)
    → new ≡ old ++ caller ∷ [] → caller.lines ≡ lines
    → seen_callers new ≡ seen_callers old ++ lines ∷ []
seen_callers-push old new caller lines is e =
    ap seen_callers is ∙ map_push (λ c. c.lines) old caller ∙ ap (λ (ls : List SeenLine). seen_callers old ++ ls ∷ []) e
