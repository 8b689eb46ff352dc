-- Reading the lines of a text in sequence without keeping them.
use Rattle.std.proofs.Common.{◌≡◌, ℕ, zero, suc, ◌+◌, ◌-◌, ◌<◌, List, [], ◌∷◌, ◌++◌, length, refl, sym, ap, subst, ◌∙◌, arith}
use Rattle.std.proofs.lemmas.List.{length_push}
use Rattle.key_names.specs.Transcripts.SeenLine.{SeenLine}
use Rattle.transcript_text.specs.Feeding.{CountedSoFar, line_end}
use Rattle.transcript_text.specs.Grouping.{Groups, Gives}
use Rattle.transcript_text.specs.ReadTexts.{HasMoreLines, IsPassed}
use Rattle.transcript_text.proofs.GroupedLines.{groups_next, groups_push}
use Rattle.transcript_text.proofs.ReadingOn.{goes_on, gives_so_far, found}

-- `next` and `last` have the lines of `done` and `current`, grouped by caller, with `caller` as the current caller
record Grown (done : List (List SeenLine)) (current : List SeenLine) (caller : ℕ) : Type 0 where
  next : List (List SeenLine)
  last : List SeenLine
  many : length next ≡ caller
  groups : (lines : List SeenLine) → Groups done current lines → Groups next last lines

grown : (more : ℕ) (done : List (List SeenLine)) (current : List SeenLine) (caller : ℕ) → caller ≡ length done + more
    → Grown done current caller
grown zero done current caller is =
    record { next = done; last = current; many = omega (arith, is); groups = λ lines g. g }
grown (suc more) done current caller is =
    let r = grown more (done ++ current ∷ []) [] caller (omega (arith, is, length_push done current)) in record {
      next = r.next;
      last = r.last;
      many = r.many;
      groups = λ lines g. r.groups lines (groups_next done (done ++ current ∷ []) current lines refl g);
    }

pub passes : (text rest line following : List ℕ) (least number caller : ℕ) → CountedSoFar text least rest number
    → rest ≡ line ++ 10 ∷ following → IsPassed line least caller → CountedSoFar text caller following (number + 1)
passes text rest line following least number caller s cut a =
    let g = grown (caller - least) s.done s.current caller (omega (arith, s.many, a.later)) in
    let current = g.last ++ a.line ∷ [] in
    record {
      done = g.next;
      current = current;
      read = goes_on text rest line following s.done g.next s.current current number s.read cut (record {
        line = a.line;
        fits = a.fits;
        spelt = a.spelt;
        later = omega (arith, s.many, a.later, a.own);
        below = omega (arith, a.own, a.below);
        len = g.many ∙ sym a.own;
        some = omega (arith, length_push g.last a.line);
        groups = λ lines gr.
            groups_push g.next g.last lines current a.line refl (a.own ∙ sym g.many) (g.groups lines gr);
      });
      many = g.many;
    }

-- if only the last line of `text` is unread, and more than `most` lines were counted, `text` is a transcript with too
-- many lines
pub more_lines : (text : List ℕ) (least count most : ℕ) → CountedSoFar text least (line_end ++ 10 ∷ []) (count + 1)
    → most < count → HasMoreLines most text
more_lines text least count most s more =
    let r = s.read in
    let g = gives_so_far text (line_end ++ 10 ∷ []) s.done s.current (count + 1) r in
    record {
      callers = g.0;
      is_text = found text (line_end ++ 10 ∷ []) [] line_end s.done s.current (count + 1) g.0 r refl refl refl
          (λ lines gr. subst (Gives g.0) (sym r.groups.whole ∙ gr.whole) g.1);
      many = omega (arith, ap length g.1.all, r.count);
    }
