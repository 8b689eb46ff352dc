-- The lines of a transcript in sequence: the callers' numbers never fall, and the lines determine the transcript.
use Rattle.std.proofs.Common.{◌≡◌, ℕ, suc, ◌+◌, ◌<◌, ◌≤◌, List, [], ◌∷◌, ◌++◌, length, refl, sym, ap, ◌∙◌, append-nil, arith}
use Rattle.std.specs.List.{AllByRecursion}
use Rattle.std.proofs.lemmas.List.{length-append, nil_from_length}
use Rattle.key_names.specs.Transcripts.SeenLine.{SeenLine}
use Rattle.key_names.specs.Texts.TranscriptGrammar.{all_lines, LineFits, LastHasLines, UnderOwnNumber}
use Rattle.transcript_text.specs.Feeding.{Rising, last_caller}
use Rattle.transcript_text.specs.Grouping.{OfCaller}

pub Rising-push : (least : ℕ) (lines : List SeenLine) (line : SeenLine) → Rising least lines
    → last_caller least lines ≤ line.caller → line.caller < 64 → LineFits line
    → Rising least (lines ++ line ∷ [])
Rising-push least [] line rising low high fits = (low, high, fits, tt)
Rising-push least (l ∷ lines) line rising low high fits =
    (rising.0, rising.1, rising.2, Rising-push l.caller lines line rising.3 low high fits)

pub last_caller-push : (least : ℕ) (lines : List SeenLine) (line : SeenLine)
    → last_caller least (lines ++ line ∷ []) ≡ line.caller
last_caller-push least [] line = refl
last_caller-push least (l ∷ lines) line = last_caller-push l.caller lines line

-- ---- if lines are grouped by caller, the callers' numbers never fall

Rising-append : (least caller : ℕ) (lines more : List SeenLine) → least ≤ caller → caller < 64 → OfCaller caller lines
    → AllByRecursion LineFits lines
    → Rising caller more → Rising least (lines ++ more)
Rising-append least caller [] [] low high own fits rising = tt
Rising-append least caller [] (m ∷ more) low high own fits rising =
    (omega (arith, rising.0), rising.1, rising.2, rising.3)
Rising-append least caller (l ∷ lines) more low high own fits rising = (
  omega (arith, own.0),
  omega (arith, own.0),
  fits.0,
  Rising-append l.caller caller lines more (omega (arith, own.0)) high own.1 fits.1 rising,
)

pub all_lines_rise : (least first : ℕ) (callers : List (List SeenLine)) → least ≤ first → first + length callers ≤ 64
    → UnderOwnNumber first callers
    → AllByRecursion (AllByRecursion LineFits) callers → Rising least (all_lines callers)
all_lines_rise least first [] low few own fits = tt
all_lines_rise least first (lines ∷ callers) low few own fits =
    Rising-append least first lines (all_lines callers) low (omega arith) own.0 fits.0
    (all_lines_rise first (suc first) callers (omega arith) (omega arith) own.1 fits.1)

-- ---- the sequence of lines determines each caller's lines

-- each of `lines` is of caller `first` or of a caller with a higher number
From : ℕ → List SeenLine → Type 0
From first lines = AllByRecursion (λ line. first ≤ line.caller) lines

from_lines : (least caller : ℕ) (lines more : List SeenLine) → least ≤ caller → OfCaller caller lines
    → From least more → From least (lines ++ more)
unfolding From
from_lines least caller [] more low own from = from
from_lines least caller (l ∷ lines) more low own from =
    (omega (arith, own.0), from_lines least caller lines more low own.1 from)

from_all : (least first : ℕ) (callers : List (List SeenLine)) → least ≤ first → UnderOwnNumber first callers
    → From least (all_lines callers)
unfolding From
from_all least first [] low own = tt
from_all least first (lines ∷ callers) low own = from_lines least first lines (all_lines callers) low own.0
    (from_all least (suc first) callers (omega arith) own.1)

-- if two sequences of lines are equal, they have the same lines of `caller`, and the same lines of later callers
same_first : (caller : ℕ) (a b more rest : List SeenLine) → OfCaller caller a → OfCaller caller b
    → From (suc caller) more → From (suc caller) rest
    → a ++ more ≡ b ++ rest → (a ≡ b) × (more ≡ rest)
unfolding From
same_first caller [] [] more rest f g m r e = (refl, e)
same_first caller [] (y ∷ b) [] rest f g m r e = absurd cc
same_first caller [] (y ∷ b) (x ∷ more) rest f g m r e =
    let head : x ≡ y = cc in
    let same : x.caller ≡ y.caller = ap (λ (l : SeenLine). l.caller) head in
    absurd (omega (arith, g.0, m.0, same))
same_first caller (x ∷ a) [] more [] f g m r e = absurd cc
same_first caller (x ∷ a) [] more (y ∷ rest) f g m r e =
    let head : x ≡ y = cc in
    let same : x.caller ≡ y.caller = ap (λ (l : SeenLine). l.caller) head in
    absurd (omega (arith, f.0, r.0, same))
same_first caller (x ∷ a) (y ∷ b) more rest f g m r e =
    let head : x ≡ y = cc in
    let tail : a ++ more ≡ b ++ rest = cc in
    let parts = same_first caller a b more rest f.1 g.1 m r tail in
    (ap (λ (l : SeenLine). l ∷ a) head ∙ ap (λ (ls : List SeenLine). y ∷ ls) parts.0, parts.1)

some_lines : (lines : List SeenLine) (callers : List (List SeenLine)) → LastHasLines (lines ∷ callers)
    → all_lines (lines ∷ callers) ≡ [] → ⊥
some_lines [] [] last e = omega arith
some_lines (l ∷ lines) [] last e = cc
some_lines lines (next ∷ callers) last e =
    some_lines next callers last (let n : length lines + length (all_lines (next ∷ callers)) ≡ 0 =
    omega (arith, ap length e, length-append lines (all_lines (next ∷ callers))) in
    nil_from_length (all_lines (next ∷ callers)) (omega arith))

pub same_callers : (first : ℕ) (a b : List (List SeenLine)) → UnderOwnNumber first a → UnderOwnNumber first b
    → LastHasLines a → LastHasLines b
    → all_lines a ≡ all_lines b → a ≡ b
unfolding From
same_callers first [] [] f g last last2 e = refl
same_callers first [] (y ∷ b) f g last last2 e = absurd (some_lines y b last2 (sym e))
same_callers first (x ∷ a) [] f g last last2 e = absurd (some_lines x a last e)
same_callers first (x ∷ []) (y ∷ []) f g last last2 e =
    let e2 : x ≡ y = sym (append-nil x) ∙ e ∙ append-nil y in ap (λ (l : List SeenLine). l ∷ []) e2
same_callers first (x ∷ []) (y ∷ z ∷ b) f g last last2 e =
    let parts = same_first first x y [] (all_lines (z ∷ b)) f.0 g.0 tt
    (from_all (suc first) (suc first) (z ∷ b) (omega arith) g.1) e in
    absurd (some_lines z b last2 (sym parts.1))
same_callers first (x ∷ w ∷ a) (y ∷ []) f g last last2 e =
    let parts = same_first first x y (all_lines (w ∷ a)) [] f.0 g.0
    (from_all (suc first) (suc first) (w ∷ a) (omega arith) f.1) tt e in
    absurd (some_lines w a last parts.1)
same_callers first (x ∷ w ∷ a) (y ∷ z ∷ b) f g last last2 e =
    let parts = same_first first x y (all_lines (w ∷ a)) (all_lines (z ∷ b)) f.0 g.0
    (from_all (suc first) (suc first) (w ∷ a) (omega arith) f.1)
    (from_all (suc first) (suc first) (z ∷ b) (omega arith) g.1) e in
    ap (λ (l : List SeenLine). l ∷ w ∷ a) parts.0 ∙ ap (λ (ls : List (List SeenLine)). y ∷ ls)
    (same_callers (suc first) (w ∷ a) (z ∷ b) f.1 g.1 last last2 parts.1)
