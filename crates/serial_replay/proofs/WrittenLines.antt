-- The loops that write a transcript's lines keep their invariants: after one more line of a caller, and after one more
-- caller.
use Rattle.std.proofs.Common.{◌≡◌, ℕ, zero, suc, ◌+◌, ◌<◌, ◌≤◌, Some, List, [], ◌∷◌, ◌++◌, length, get_or, drop, refl, sym, subst, ap, ◌∙◌, arith, append_assoc}
use Rattle.std.specs.Prelude.{slice_get, slice_index_or}
use Rattle.std.specs.List.{AllByRecursion}
use Rattle.std.specs.Global.{Vec}
use Rattle.std.proofs.lemmas.List.{at_drop_all, append-nil}
use Rattle.key_names.specs.Lanes.Book.{list_at}
use Rattle.key_names.specs.Transcripts.SeenLine.{SeenLine}
use Rattle.key_names.specs.Texts.TranscriptGrammar.{LastHasLines}
use Rattle.key_names.proofs.Lists.ListFacts.{found_dropped}
use Rattle.judge_log.specs.declared.said.MadeLine.{MadeLine}
use Rattle.serial_replay.specs.Agreement.{Agrees}
use Rattle.serial_replay.specs.Remade.{said_lists}
use Rattle.serial_replay.specs.Written.{said_of, lines_said, said_into, MayShow}

-- the invariants hold after one more line of a caller, `line`, is written
module _ (said : List MadeLine) (lines : List SeenLine) (n : ℕ) (line : SeenLine) (is : slice_get lines n ≡ Some line) where
  rest_is : drop n lines ≡ line ∷ drop (n + 1) lines
  rest_is = found_dropped lines n line is

  pub line_more : (inferred : List SeenLine) → inferred ++ lines_said said (drop n lines) ≡ lines_said said lines →
      (inferred ++ said_of line (slice_get said line.event) ∷ []) ++ lines_said said (drop (n + 1) lines) ≡ lines_said said lines
  line_more inferred so_far =
      append_assoc inferred (said_of line (slice_get said line.event) ∷ []) (lines_said said (drop (n + 1) lines))
      ∙ sym (ap (λ (xs : List SeenLine). inferred ++ lines_said said xs) rest_is) ∙ so_far

  pub agree_more : AllByRecursion (Agrees MayShow said) (drop n lines) →
      Agrees MayShow said line × AllByRecursion (Agrees MayShow said) (drop (n + 1) lines)
  agree_more all = subst (λ (xs : List SeenLine). AllByRecursion (Agrees MayShow said) xs) rest_is all

pub lines_end : (said : List MadeLine) (lines inferred : List SeenLine) (n : ℕ) → length lines ≤ n →
    inferred ++ lines_said said (drop n lines) ≡ lines_said said lines → inferred ≡ lines_said said lines
lines_end said lines inferred n high so_far =
    sym (append-nil inferred) ∙ sym (ap (λ (xs : List SeenLine). inferred ++ lines_said said xs) (at_drop_all (λ x. x) lines n high))
    ∙ so_far

pub callers_end : (said : List (Vec MadeLine)) (t inferred : List (List SeenLine)) (n : ℕ) → length t ≤ n →
    inferred ++ said_into (said_lists (drop n said)) (drop n t) ≡ said_into (said_lists said) t → inferred ≡ said_into (said_lists said) t
callers_end said t inferred n high so_far =
    sym (append-nil inferred)
    ∙ sym (ap (λ (u : List (List SeenLine)). inferred ++ said_into (said_lists (drop n said)) u) (at_drop_all (λ x. x) t n high))
    ∙ so_far

-- if a caller has lines, lines are written for this caller
many_lines : (said : List MadeLine) (lines : List SeenLine) → 0 < length lines → 0 < length (lines_said said lines)
many_lines said [] some = some
many_lines said (line ∷ lines) some = omega arith

pub last_lines : (saids : List (List MadeLine)) (t : List (List SeenLine)) → LastHasLines t → LastHasLines (said_into saids t)
last_lines saids [] last = last
last_lines [] (lines ∷ []) last = last
last_lines (said ∷ saids) (lines ∷ []) last = many_lines said lines last
last_lines [] (lines ∷ next ∷ t) last = last_lines [] (next ∷ t) last
last_lines (said ∷ []) (lines ∷ next ∷ t) last = last_lines [] (next ∷ t) last
last_lines (said ∷ s ∷ saids) (lines ∷ next ∷ t) last = last_lines (s ∷ saids) (next ∷ t) last

pub said_long : (saids : List (List MadeLine)) (t : List (List SeenLine)) → length (said_into saids t) ≡ length t
said_long saids [] = refl
said_long [] (lines ∷ t) = ap suc (said_long [] t)
said_long (said ∷ saids) (lines ∷ t) = ap suc (said_long saids t)

-- indexing the transcript `t` by a caller's number `c` gives the same lines as `list_at t c`
pub lines_at : (t : List (List SeenLine)) (c : ℕ) → slice_index_or t c [] ≡ list_at t c
lines_at [] c = refl
lines_at (lines ∷ t) zero = refl
lines_at (lines ∷ t) (suc c) = lines_at t c

pub said_at : {Noted : Type 0} (said : List (Vec Noted)) (c : ℕ) (v : Vec Noted) → c < length said → v ≡ get_or said c v →
    v.items ≡ list_at (said_lists said) c
said_at [] c v low is = absurd (omega arith)
said_at (s ∷ said) zero v low is = ap (λ x. x.items) is
said_at (s ∷ said) (suc c) v low is = said_at said c v (omega arith) is
