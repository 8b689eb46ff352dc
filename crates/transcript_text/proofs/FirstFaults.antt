-- The lines before a text's first faulty line are the start of some transcript; with the faulty line they are the start
-- of none. A text has only one first faulty line.
use Rattle.std.proofs.Common.{◌≡◌, ℕ, ◌+◌, ◌<◌, ◌≤◌, ◌⊎◌, inl, inr, true, List, [], ◌∷◌, ◌++◌, length, map, refl, sym, ap, subst, ◌∙◌, append_assoc, append-nil, arith}
use Rattle.std.specs.Prelude.{codes}
use Rattle.std.specs.List.{AllByRecursion}
use Rattle.std.proofs.lemmas.Bool.{cases_lt}
use Rattle.std.proofs.lemmas.List.{length-append, length-map}
use Rattle.key_names.specs.Transcripts.SeenLine.{SeenLine}
use Rattle.key_names.specs.Texts.Spelling.{lined}
use Rattle.key_names.specs.Texts.TranscriptGrammar.{line_text, all_lines, transcript_lines, transcript_text, LineFits, TranscriptFits, UnderOwnNumber, IsTranscriptText, BeginsTranscript, IsFirstFault}
use Rattle.transcript_text.specs.Feeding.{Rising, last_caller, head_line, line_end, front_of}
use Rattle.transcript_text.specs.Grouping.{Gives}
use Rattle.transcript_text.specs.Reading.{lacks}
use Rattle.transcript_text.proofs.Cutting.{same_cut}
use Rattle.transcript_text.proofs.LineTexts.{same_line, no_end, line_lacks_feed}
use Rattle.transcript_text.proofs.RisingLines.{all_lines_rise, same_callers}

-- ---- two transcripts with the same first lines

tail_of : (x : List ℕ) (a b : List (List ℕ)) → x ∷ a ≡ x ∷ b → a ≡ b
tail_of x a b e = cc

-- if a transcript begins with `lines`, its next line is the last line, `end`, or a line of the same caller or of a
-- later caller
pub next_is : (least : ℕ) (lines others : List SeenLine) (line : List ℕ) (more : List (List ℕ)) → Rising least lines
    → Rising least others
    → (map line_text lines ++ line ∷ []) ++ more ≡ map line_text others ++ line_end ∷ []
    → (line ≡ line_end) ⊎ ((l : SeenLine) × (LineFits l × (last_caller least lines ≤ l.caller) × (l.caller < 64)
    × (line ≡ line_text l)))
next_is least [] [] line more f g e = inl cc
next_is least [] (o ∷ others) line more f g e = let h : line ≡ line_text o = cc in inr (o, (g.2, g.0, g.1, h))
next_is least (l ∷ lines) [] line more f g e = absurd (let h : line_text l ≡ line_end = cc in no_end l h)
next_is least (l ∷ lines) (o ∷ others) line more f g e =
    let head : line_text l ≡ line_text o = cc in
    let tail : (map line_text lines ++ line ∷ []) ++ more ≡ map line_text others ++ line_end ∷ [] = cc in
    let same = same_line l o f.2 g.2 head in
    next_is l.caller lines others line more f.3 (subst (λ (c : ℕ). Rising c others)
    (sym (ap (λ (x : SeenLine). x.caller) same)) g.3) tail

-- no line comes after the line `end`
pub after_end : (lines others : List SeenLine) (line : List ℕ) (more : List (List ℕ))
    → (map line_text lines ++ line_end ∷ []) ++ (line ∷ more) ≡ map line_text others ++ line_end ∷ [] → ⊥
after_end [] [] line more e = cc
after_end [] (o ∷ others) line more e = let h : line_end ≡ line_text o = cc in no_end o (sym h)
after_end (l ∷ lines) [] line more e = let h : line_text l ≡ line_end = cc in no_end l h
after_end (l ∷ lines) (o ∷ others) line more e = after_end lines others line more cc

-- lines without the last line, `end`, are not all lines of a transcript
pub no_whole : (lines others : List SeenLine) → map line_text lines ≡ map line_text others ++ line_end ∷ [] → ⊥
no_whole [] [] e = cc
no_whole [] (o ∷ others) e = cc
no_whole (l ∷ lines) [] e = let h : line_text l ≡ line_end = cc in no_end l h
no_whole (l ∷ lines) (o ∷ others) e = no_whole lines others cc

-- ---- texts that begin with given lines

abbrev AllLack : List (List ℕ) → Type 0
AllLack lines = AllByRecursion (λ line. lacks 10 line ≡ true) lines

pub record LinesAfter (front lines : List (List ℕ)) (rest : List ℕ) : Type 0 where
  pub following : List (List ℕ)
  pub whole : lines ≡ front ++ following
  pub text : rest ≡ lined following

pub lines_after : (front lines : List (List ℕ)) (rest : List ℕ) → AllLack front → AllLack lines
    → lined front ++ rest ≡ lined lines → LinesAfter front lines rest
lines_after [] lines rest f g e = record { following = lines; whole = refl; text = e }
lines_after (x ∷ front) [] rest f g e = absurd (let n : length (lined (x ∷ front) ++ rest) ≡ 0 = ap length e in
    omega (
      arith,
      n,
      length-append (lined (x ∷ front)) rest,
      length-append (x ++ codes "\n") (lined front),
      length-append x (codes "\n"),
    ))
lines_after (x ∷ front) (y ∷ lines) rest f g e =
    let left : lined (x ∷ front) ++ rest ≡ x ++ 10 ∷ (lined front ++ rest) =
    append_assoc (x ++ codes "\n") (lined front) rest ∙ append_assoc x (codes "\n") (lined front ++ rest) in
    let right : lined (y ∷ lines) ≡ y ++ 10 ∷ lined lines = append_assoc y (codes "\n") (lined lines) in
    let parts = same_cut 10 x y (lined front ++ rest) (lined lines) f.0 g.0 (sym left ∙ e ∙ right) in
    let more = lines_after front lines rest f.1 g.1 parts.1 in
    record {
      following = more.following;
      whole = ap (λ (l : List ℕ). l ∷ lines) (sym parts.0)
          ∙ ap (λ (ls : List (List ℕ)). x ∷ ls) more.whole;
      text = more.text;
    }

map_lacks : (least : ℕ) (lines : List SeenLine) (more : List (List ℕ)) → Rising least lines → AllLack more
    → AllLack (map line_text lines ++ more)
map_lacks least [] more rising lack = lack
map_lacks least (l ∷ lines) more rising lack = (line_lacks_feed l rising.2, map_lacks l.caller lines more rising.3 lack)

front_lacks : (lines : List SeenLine) → Rising 0 lines → AllLack (front_of lines)
front_lacks lines rising = (refl, subst AllLack (append-nil (map line_text lines)) (map_lacks 0 lines [] rising tt))

whole_lacks : (callers : List (List SeenLine)) → Rising 0 (all_lines callers) → AllLack (transcript_lines callers)
whole_lacks callers rising = (refl, map_lacks 0 (all_lines callers) (line_end ∷ []) rising (refl, tt))

-- ---- a transcript's text that begins with given lines

pub rises : (callers : List (List SeenLine)) → TranscriptFits callers → UnderOwnNumber 0 callers
    → Rising 0 (all_lines callers)
rises callers fits own = all_lines_rise 0 0 callers (omega arith) (omega (arith, fits.few_callers)) own fits.lines

-- `rest` does not begin with a whole line that can follow `lines`
unfoldable pub NoNext : List SeenLine → List ℕ → Type 0
NoNext lines rest = (line more : List ℕ) → rest ≡ line ++ 10 ∷ more → lacks 10 line ≡ true
    → (line ≡ line_end → ⊥) × ((l : SeenLine) → LineFits l → last_caller 0 lines ≤ l.caller → l.caller < 64
    → line ≡ line_text l → ⊥)

Stops : List (List ℕ) → List ℕ → Type 0
Stops front rest = (line more : List ℕ) → rest ≡ line ++ codes "\n" ++ more → BeginsTranscript (front ++ line ∷ []) → ⊥

stops_here : (lines : List SeenLine) (rest : List ℕ) → Rising 0 lines → NoNext lines rest → Stops (front_of lines) rest
unfolding Stops NoNext
stops_here lines rest rising not line more cut begins =
    let cut2 : rest ≡ line ++ 10 ∷ more = cut ∙ append_assoc line (codes "\n") more in
    let e = tail_of head_line ((map line_text lines ++ line ∷ []) ++ begins.rest)
    (map line_text (all_lines begins.callers) ++ line_end ∷ []) begins.lines in
    elim (next_is 0 lines (all_lines begins.callers) line begins.rest rising
    (rises begins.callers begins.fits begins.own) e) [
      | inl at_end ↦ (not line more cut2 (rw at_end refl)).0 at_end
      | inr next ↦ (not line more cut2 (rw next.1.3 (line_lacks_feed next.0 next.1.0))).1 next.0 next.1.0 next.1.1
          next.1.2 next.1.3
    ]

-- suppose that no transcript begins with `front` and the next line of `rest`. If `rest` is empty, suppose also that
-- `front` is not a whole transcript. Then `text` is not the text of a transcript
none_after : (text : List ℕ) (front : List (List ℕ)) (rest : List ℕ) → AllLack front → text ≡ lined front ++ rest
    → Stops front rest
    → ((callers : List (List SeenLine)) → rest ≡ [] → front ≡ transcript_lines callers → ⊥)
    → (callers : List (List SeenLine)) → IsTranscriptText text callers → ⊥
unfolding transcript_text Stops
none_after text front rest lack parts stops unended callers t =
    let b = lines_after front (transcript_lines callers) rest lack (whole_lacks callers (rises callers t.fits t.own))
    (sym parts ∙ t.spelled) in
    at_tail b.following b.whole b.text
  where
    at_tail : (following : List (List ℕ)) → transcript_lines callers ≡ front ++ following → rest ≡ lined following → ⊥
    at_tail [] whole text = unended callers text (sym (whole ∙ append-nil front))
    at_tail (x ∷ following) whole text = stops x (lined following) text
        (record {
          callers = callers;
          rest = following;
          fits = t.fits;
          own = t.own;
          lines =
              append_assoc front (x ∷ []) following ∙ sym whole;
        })

-- if the next line of `rest` cannot follow `lines` in any transcript, that line is the first fault
pub fault_here : (text rest : List ℕ) (lines : List SeenLine) (number : ℕ) (callers : List (List SeenLine))
    → Gives callers lines → Rising 0 lines
    → text ≡ lined (front_of lines) ++ rest → number ≡ length lines + 2 → NoNext lines rest → IsFirstFault text number
unfolding Stops
fault_here text rest lines number callers gives rising parts is not = record {
  front = front_of lines;
  rest = rest;
  number_is = omega (arith, length-map lines line_text);
  parts = parts;
  begins = record {
    callers = callers;
    rest = line_end ∷ [];
    fits = gives.fits;
    own = gives.own;
    lines = ap (λ (ls : List SeenLine). (head_line ∷ map line_text ls) ++ line_end ∷ []) (sym gives.all);
  };
  stops = stops_here lines rest rising not;
  none = none_after text (front_of lines) rest (front_lacks lines rising) parts (stops_here lines rest rising not)
      (λ others nothing e. no_whole lines (all_lines others)
      (tail_of head_line (map line_text lines) (map line_text (all_lines others) ++ line_end ∷ []) e));
}

-- if text follows the last line, the line after the last line is the first fault
pub fault_later : (text rest : List ℕ) (lines : List SeenLine) (number : ℕ) (callers : List (List SeenLine))
    → Gives callers lines → Rising 0 lines
    → text ≡ lined (transcript_lines callers) ++ rest → (rest ≡ [] → ⊥) → number ≡ length lines + 3
    → IsFirstFault text number
unfolding Stops
fault_later text rest lines number callers gives rising parts some is =
    let stops : Stops (transcript_lines callers) rest = λ line more cut begins.
    after_end (all_lines callers) (all_lines begins.callers) line begins.rest
    (sym (append_assoc (map line_text (all_lines callers) ++ line_end ∷ []) (line ∷ []) begins.rest)
    ∙ tail_of head_line ((map line_text (all_lines callers) ++ line_end ∷ []) ++ line ∷ [] ++ begins.rest)
    (map line_text (all_lines begins.callers) ++ line_end ∷ []) begins.lines) in
    record {
      front = transcript_lines callers;
      rest = rest;
      number_is = omega (
        arith,
        length-map (all_lines callers) line_text,
        ap length gives.all,
        length-append
            (map line_text (all_lines callers)) (line_end ∷ []),
      );
      parts = parts;
      begins = record {
        callers = callers;
        rest = [];
        fits = gives.fits;
        own = gives.own;
        lines =
            append-nil (transcript_lines callers);
      };
      stops = stops;
      none = none_after text (transcript_lines callers) rest
          (whole_lacks callers (rises callers gives.fits gives.own)) parts stops (λ others nothing e. some nothing);
    }

-- if a text does not begin with a transcript's first line, line 1 is the first fault
pub no_head : (text : List ℕ) → ((line more : List ℕ) → text ≡ line ++ 10 ∷ more → line ≡ head_line → ⊥)
    → IsFirstFault text 1
unfolding Stops
no_head text not =
    let stops : Stops [] text = λ line more cut begins.
    not line more (cut ∙ append_assoc line (codes "\n") more) (let h : line ≡ head_line = cc (begins.lines) in h) in
    record {
      front = [];
      rest = text;
      number_is = refl;
      parts = refl;
      begins = record {
        callers = [];
        rest = transcript_lines [];
        fits = record { few_callers = omega arith; last = tt; lines = tt };
        own = tt;
        lines = refl;
      };
      stops = stops;
      none = none_after text [] text tt refl stops (λ others nothing e. absurd cc);
    }

pub gives_nothing : Gives [] []
gives_nothing = record { fits = record { few_callers = omega arith; last = tt; lines = tt }; own = tt; all = refl }

-- ---- a text is the text of at most one transcript

lined_once : (front lines : List (List ℕ)) → AllLack front → AllLack lines → lined front ≡ lined lines
    → LinesAfter front lines []
lined_once front lines f g e = lines_after front lines [] f g (append-nil (lined front) ∙ e)

same_lines : (least : ℕ) (lines others : List SeenLine) (more : List (List ℕ)) → Rising least lines
    → Rising least others
    → map line_text others ++ line_end ∷ [] ≡ (map line_text lines ++ line_end ∷ []) ++ more → lines ≡ others
same_lines least [] [] more f g e = refl
same_lines least [] (o ∷ others) more f g e = absurd (let h : line_text o ≡ line_end = cc in no_end o h)
same_lines least (l ∷ lines) [] more f g e = absurd (let h : line_text l ≡ line_end = cc in no_end l h)
same_lines least (l ∷ lines) (o ∷ others) more f g e =
    let head : line_text l ≡ line_text o = cc in
    let tail : map line_text others ++ line_end ∷ [] ≡ (map line_text lines ++ line_end ∷ []) ++ more = cc in
    let same = same_line l o f.2 g.2 head in
    ap (λ (x : SeenLine). x ∷ lines) same
    ∙ ap (λ (ls : List SeenLine). o ∷ ls) (same_lines l.caller lines others more f.3
    (subst (λ (c : ℕ). Rising c others) (sym (ap (λ (x : SeenLine). x.caller) same)) g.3) tail)

pub one_transcript : (text : List ℕ) (a b : List (List SeenLine)) → IsTranscriptText text a → IsTranscriptText text b
    → a ≡ b
unfolding transcript_text
one_transcript text a b s t =
    let rise_a = rises a s.fits s.own in
    let rise_b = rises b t.fits t.own in
    let both = lined_once (transcript_lines a) (transcript_lines b) (whole_lacks a rise_a) (whole_lacks b rise_b)
    (sym s.spelled ∙ t.spelled) in
    let tail = tail_of head_line (map line_text (all_lines b) ++ line_end ∷ [])
    ((map line_text (all_lines a) ++ line_end ∷ []) ++ both.following) both.whole in
    same_callers 0 a b s.own t.own s.fits.last t.fits.last
    (same_lines 0 (all_lines a) (all_lines b) both.following rise_a rise_b tail)

-- ---- a text has at most one first faulty line

-- let a text begin with the lines `a` and also with the lines `b`, and let `b` have more lines. Then `b` is `a`, the
-- text's next line, and perhaps more lines
next_front : (a b : List (List ℕ)) (r s : List ℕ) → AllLack a → AllLack b → lined a ++ r ≡ lined b ++ s
    → length a < length b
    → (line : List ℕ) × ((more : List (List ℕ)) × ((b ≡ a ++ line ∷ more)
    × (r ≡ line ++ codes "\n" ++ (lined more ++ s))))
next_front [] [] r s f g e short = absurd (omega arith)
next_front [] (y ∷ b) r s f g e short = (y, (b, (refl, e ∙ append_assoc (y ++ codes "\n") (lined b) s)))
next_front (x ∷ a) [] r s f g e short = absurd (omega arith)
next_front (x ∷ a) (y ∷ b) r s f g e short =
    let left : lined (x ∷ a) ++ r ≡ x ++ 10 ∷ (lined a ++ r) = append_assoc (x ++ codes "\n") (lined a) r
    ∙ append_assoc x (codes "\n") (lined a ++ r) in
    let right : lined (y ∷ b) ++ s ≡ y ++ 10 ∷ (lined b ++ s) = append_assoc (y ++ codes "\n") (lined b) s
    ∙ append_assoc y (codes "\n") (lined b ++ s) in
    let parts = same_cut 10 x y (lined a ++ r) (lined b ++ s) f.0 g.0 (sym left ∙ e ∙ right) in
    let next = next_front a b r s f.1 g.1 parts.1 (omega arith) in (
      next.0,
      (
        next.1.0,
        (
          ap (λ (l : List ℕ). l ∷ b) (sym parts.0)
              ∙ ap (λ (ls : List (List ℕ)). x ∷ ls) next.1.1.0,
          next.1.1.1,
        ),
      ),
    )

front_lack : (a b : List (List ℕ)) → AllLack (a ++ b) → AllLack a
front_lack [] b f = tt
front_lack (x ∷ a) b f = (f.0, front_lack a b f.1)

begun_lack : (front : List (List ℕ)) → BeginsTranscript front → AllLack front
begun_lack front b = front_lack front b.rest (subst AllLack (sym b.lines)
    (whole_lacks b.callers (rises b.callers b.fits b.own)))

no_later : (text : List ℕ) (m n : ℕ) (a : IsFirstFault text m) (b : IsFirstFault text n)
    → length a.front < length b.front → ⊥
no_later text m n a b short =
    let next = next_front a.front b.front a.rest b.rest (begun_lack a.front a.begins) (begun_lack b.front b.begins)
    (sym a.parts ∙ b.parts) short in
    a.stops next.0 (lined next.1.0 ++ b.rest) next.1.1.1 (record {
      callers = b.begins.callers;
      rest = next.1.0 ++ b.begins.rest;
      fits = b.begins.fits;
      own = b.begins.own;
      lines = sym (append_assoc (a.front ++ next.0 ∷ []) next.1.0 b.begins.rest)
          ∙ ap (λ (ls : List (List ℕ)). ls ++ b.begins.rest) (append_assoc a.front (next.0 ∷ []) next.1.0
          ∙ sym next.1.1.0) ∙ b.begins.lines;
    })

pub one_first_fault : (text : List ℕ) (m n : ℕ) → IsFirstFault text m → IsFirstFault text n → m ≡ n
one_first_fault text m n a b =
    elim (cases_lt (length a.front) (length b.front)) [
      | inl less ↦ absurd (no_later text m n a b less)
      | inr more ↦ elim (cases_lt (length b.front) (length a.front)) [
        | inl less ↦ absurd (no_later text n m b a less)
        | inr same ↦ omega (arith, a.number_is, b.number_is)
      ]
    ]
