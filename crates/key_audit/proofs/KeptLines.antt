-- The lines of a caller are found by the caller's number. The kept marks have the stamps of the transcript's visits.
use Rattle.std.proofs.Common.{◌≡◌, ℕ, zero, suc, ◌<◌, ◌≤◌, List, [], ◌∷◌, length, map, refl, sym, ap, ◌∙◌, arith, get_or}
use Rattle.std.specs.Prelude.{◌||◌, nat_le, IsPermutation}
use Rattle.std.specs.Global.{Vec}
use Rattle.std.specs.List.{list_any}
use Rattle.std.proofs.lemmas.List.Sorted.{list_any-IsPermutation}
use Rattle.key_names.specs.Lanes.Book.{list_at}
use Rattle.key_names.specs.Transcripts.IsTranscript.{MarkBy, all_marks}
use Rattle.key_names.specs.Transcripts.SeenLine.{SeenLine}
use Rattle.judge_lines.specs.declared.marks.MarkOf.{MarkOf}
use Rattle.judge_lines.specs.Marks.{seen_mark}
use Rattle.audit_keys.specs.declared.line_ends.LineEnd.{LineEnd}
use Rattle.audit_keys.specs.LineEnds.{lines_in}
use Rattle.key_audit.specs.Asked.{has_stamp, stamps_reach}

pub lines_kept : (lines : List (Vec LineEnd)) (c : ℕ) (list : Vec LineEnd) → c < length lines →
    list ≡ get_or lines c list → list.items ≡ list_at (lines_in lines) c
lines_kept [] c list low is = absurd (omega arith)
lines_kept (l ∷ lines) zero list low is = ap (λ (v : Vec LineEnd). v.items) is
lines_kept (l ∷ lines) (suc c) list low is = lines_kept lines c list (omega arith) is

pub lines_past : (lines : List (Vec LineEnd)) (c : ℕ) → length lines ≤ c → list_at (lines_in lines) c ≡ []
lines_past [] c past = refl
lines_past (l ∷ lines) zero past = absurd (omega arith)
lines_past (l ∷ lines) (suc c) past = lines_past lines c (omega arith)

seen_reach : (stamp : ℕ) (marks : List MarkOf) →
    list_any (λ (by : MarkBy). nat_le stamp by.mark.stamp) (map seen_mark marks) ≡ stamps_reach stamp marks
seen_reach stamp [] = refl
seen_reach stamp (m ∷ marks) = ap (λ b. nat_le stamp m.mark.stamp || b) (seen_reach stamp marks)

pub stamps_kept : (stamp : ℕ) (t : List (List SeenLine)) (marks : List MarkOf) →
    IsPermutation (all_marks t) (map seen_mark marks) → stamps_reach stamp marks ≡ has_stamp t stamp
stamps_kept stamp t marks same =
    sym (list_any-IsPermutation (λ (by : MarkBy). nat_le stamp by.mark.stamp) (all_marks t) (map seen_mark marks) same
    ∙ seen_reach stamp marks)
