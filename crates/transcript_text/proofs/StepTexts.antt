-- No two steps have the same spelling.
use Rattle.std.proofs.Common.{◌≡◌, ℕ, ◌+◌, ◌^◌, ◌<◌, ◌≤◌, ◌⊎◌, inl, inr, true, suc, ◌-◌, length, take, drop, List, [], ◌∷◌, ◌++◌, get_or, refl, sym, ap, subst, ◌∙◌, append_assoc, arith}
use Rattle.std.specs.Prelude.{codes, decimal}
use Rattle.std.specs.List.{flat_map, AllByRecursion}
use Rattle.std.proofs.lemmas.Bool.{eqb-true, false_from_ne_true}
use Rattle.std.proofs.lemmas.List.{take_all, length_push, length-append}
use Rattle.key_names.proofs.Lists.Each.{each_more}
use Rattle.std.proofs.lemmas.Fmt.{decimal_injective}
use Rattle.key_names.specs.declared.names.LaneId.{LaneId}
use Rattle.key_names.specs.declared.names.LaneId.TheVariants.{Pool, Base, Cpu}
use Rattle.key_names.specs.declared.names.Mark.{Mark}
use Rattle.key_names.specs.declared.names.Step.{Step}
use Rattle.key_names.specs.declared.names.Step.TheVariants.{Look, Visit}
use Rattle.key_names.specs.Texts.TranscriptGrammar.{lane_text, mark_text, step_text, steps_text, LaneFits, MarkFits, StepFits}
use Rattle.transcript_text.specs.Reading.{lacks, StepsFit}
use Rattle.transcript_text.proofs.Cutting.{lacks-append, lacks-decimal, not_lacking, same_cut, IsNoDigit}

pub no_digit_below : (byte : ℕ) → byte < 48 → IsNoDigit byte
no_digit_below byte low = λ d small. false_from_ne_true _ (λ e. omega (arith, eqb-true (48 + d) byte e))

pub no_digit_above : (byte : ℕ) → 57 < byte → IsNoDigit byte
no_digit_above byte high = λ d small. false_from_ne_true _ (λ e. omega (arith, eqb-true (48 + d) byte e))

-- `byte` occurs in the text of no step
pub record IsOutside (byte : ℕ) : Type 0 where
  pub digits : IsNoDigit byte
  pub tilde : lacks byte (codes "~") ≡ true
  pub pool : lacks byte (codes "p") ≡ true
  pub base : lacks byte (codes "b") ≡ true
  pub cpu : lacks byte (codes "c") ≡ true
  pub colon : lacks byte (codes ":") ≡ true
  pub at : lacks byte (codes "@") ≡ true

pub comma_outside : IsOutside 44
comma_outside = record {
  digits = no_digit_below 44 (omega arith);
  tilde = refl;
  pool = refl;
  base = refl;
  cpu = refl;
  colon = refl;
  at = refl;
}

pub space_outside : IsOutside 32
space_outside = record {
  digits = no_digit_below 32 (omega arith);
  tilde = refl;
  pool = refl;
  base = refl;
  cpu = refl;
  colon = refl;
  at = refl;
}

pub feed_outside : IsOutside 10
feed_outside = record {
  digits = no_digit_below 10 (omega arith);
  tilde = refl;
  pool = refl;
  base = refl;
  cpu = refl;
  colon = refl;
  at = refl;
}

lane_lacks : (byte : ℕ) → IsNoDigit byte → lacks byte (codes "p") ≡ true → lacks byte (codes "b") ≡ true
    → lacks byte (codes "c") ≡ true
    → (lane : LaneId) → LaneFits lane → lacks byte (lane_text lane) ≡ true
unfolding lane_text
lane_lacks byte digits p b c Pool fits = p
lane_lacks byte digits p b c Base fits = b
lane_lacks byte digits p b c (Cpu cpu) fits = lacks-append byte (codes "c") (decimal cpu) c
    (lacks-decimal byte cpu digits (omega arith))

pub lane_lacks_colon : (lane : LaneId) → LaneFits lane → lacks 58 (lane_text lane) ≡ true
lane_lacks_colon lane fits = lane_lacks 58 (no_digit_above 58 (omega arith)) refl refl refl lane fits

pub place_lacks_at : (place : ℕ) → place < 2 ^ 63 → lacks 64 (decimal place) ≡ true
place_lacks_at place small = lacks-decimal 64 place (no_digit_above 64 (omega arith)) (omega arith)

abbrev pub place_text : Mark → List ℕ
place_text mark = decimal mark.place ++ 64 ∷ decimal mark.stamp

pub mark_text-parts : (mark : Mark) → mark_text mark ≡ lane_text mark.lane ++ 58 ∷ place_text mark
mark_text-parts mark = simp append_assoc

pub step_lacks : (byte : ℕ) → IsOutside byte → (step : Step) → StepFits step → lacks byte (step_text step) ≡ true
unfolding step_text
step_lacks byte out (Look generation) fits = lacks-append byte (codes "~") (decimal generation) out.tilde
    (lacks-decimal byte generation out.digits (omega arith))
step_lacks byte out (Visit mark) fits =
    let lane = lane_lacks byte out.digits out.pool out.base out.cpu mark.lane fits.lane in
    let place = lacks-decimal byte mark.place out.digits (omega (arith, fits.place)) in
    let stamp = lacks-decimal byte mark.stamp out.digits (omega (arith, fits.stamp)) in
    lacks-append byte _ (decimal mark.stamp) (lacks-append byte _ (codes "@")
    (lacks-append byte _ (decimal mark.place) (lacks-append byte (lane_text mark.lane) (codes ":") lane out.colon)
    place) out.at) stamp

-- ---- two steps, lanes or visits with the same text are equal

first_byte : List ℕ → ℕ
first_byte text = get_or text 0 0

pub same_lane : (a b : LaneId) → LaneFits a → LaneFits b → lane_text a ≡ lane_text b → a ≡ b
unfolding lane_text first_byte
same_lane Pool Pool f g e = refl
same_lane Pool Base f g e = absurd (let h : 112 ≡ 98 = ap first_byte e in omega arith)
same_lane Pool (Cpu b) f g e = absurd (let h : 112 ≡ 99 = ap first_byte e in omega arith)
same_lane Base Pool f g e = absurd (let h : 98 ≡ 112 = ap first_byte e in omega arith)
same_lane Base Base f g e = refl
same_lane Base (Cpu b) f g e = absurd (let h : 98 ≡ 99 = ap first_byte e in omega arith)
same_lane (Cpu a) Pool f g e = absurd (let h : 99 ≡ 112 = ap first_byte e in omega arith)
same_lane (Cpu a) Base f g e = absurd (let h : 99 ≡ 98 = ap first_byte e in omega arith)
same_lane (Cpu a) (Cpu b) f g e =
    let digits : decimal a ≡ decimal b = cc in
    ap Cpu (decimal_injective a b (omega arith) (omega arith) digits)

-- `lane`, `place` and `stamp` are the texts of the lane, place and stamp of the visit `mark`
pub record SpellsMark (lane place stamp : List ℕ) (mark : Mark) : Type 0 where
  pub lane_is : lane ≡ lane_text mark.lane
  pub place_is : place ≡ decimal mark.place
  pub stamp_is : stamp ≡ decimal mark.stamp

pub place_after : (text lane rest : List ℕ) (mark : Mark) → text ≡ lane ++ 58 ∷ rest → lacks 58 lane ≡ true
    → MarkFits mark → text ≡ mark_text mark
    → (lane ≡ lane_text mark.lane) × (rest ≡ place_text mark)
place_after text lane rest mark cut before fits e =
    same_cut 58 lane (lane_text mark.lane) rest (place_text mark) before (lane_lacks_colon mark.lane fits.lane)
    (sym cut ∙ e ∙ mark_text-parts mark)

pub spells_mark : (text lane rest place stamp : List ℕ) (mark : Mark) → text ≡ lane ++ 58 ∷ rest → lacks 58 lane ≡ true
    → rest ≡ place ++ 64 ∷ stamp → lacks 64 place ≡ true → MarkFits mark → text ≡ mark_text mark
    → SpellsMark lane place stamp mark
spells_mark text lane rest place stamp mark cut before cut2 before2 fits e =
    let following = place_after text lane rest mark cut before fits e in
    let parts = same_cut 64 place (decimal mark.place) stamp (decimal mark.stamp) before2
    (place_lacks_at mark.place fits.place) (sym cut2 ∙ following.1) in
    record { lane_is = following.0; place_is = parts.0; stamp_is = parts.1 }

abbrev made_mark : LaneId → ℕ → ℕ → Mark
made_mark lane place stamp = record { lane = lane; place = place; stamp = stamp }

pub same_mark : (a b : Mark) → MarkFits a → MarkFits b → mark_text a ≡ mark_text b → a ≡ b
same_mark a b f g e =
    let parts = spells_mark (mark_text a) (lane_text a.lane) (place_text a) (decimal a.place) (decimal a.stamp) b
    (mark_text-parts a) (lane_lacks_colon a.lane f.lane) refl (place_lacks_at a.place f.place) g e in
    ap (λ (l : LaneId). made_mark l a.place a.stamp) (same_lane a.lane b.lane f.lane g.lane parts.lane_is)
    ∙ ap (λ (p : ℕ). made_mark b.lane p a.stamp) (decimal_injective a.place b.place (omega (arith, f.place))
    (omega (arith, g.place)) parts.place_is)
    ∙ ap (λ (s : ℕ). made_mark b.lane b.place s) (decimal_injective a.stamp b.stamp (omega (arith, f.stamp))
    (omega (arith, g.stamp)) parts.stamp_is)

-- the name of a lane begins with a letter from `b` to `p`
lane_begins : (lane : LaneId) (rest : List ℕ) → (98 ≤ first_byte (lane_text lane ++ rest))
    × (first_byte (lane_text lane ++ rest) ≤ 112)
unfolding lane_text first_byte
lane_begins Pool rest = (omega arith, omega arith)
lane_begins Base rest = (omega arith, omega arith)
lane_begins (Cpu cpu) rest = (omega arith, omega arith)

pub no_mark : (byte : ℕ) (text : List ℕ) (mark : Mark) → (byte < 98) ⊎ (112 < byte) → byte ∷ text ≡ mark_text mark → ⊥
unfolding first_byte
no_mark byte text mark other e =
    let bounds = lane_begins mark.lane (58 ∷ place_text mark) in
    let same : byte ≡ first_byte (lane_text mark.lane ++ 58 ∷ place_text mark) =
    ap first_byte (e ∙ mark_text-parts mark) in
    elim other [ inl low ↦ omega arith | inr high ↦ omega arith ]

pub same_step : (a b : Step) → StepFits a → StepFits b → step_text a ≡ step_text b → a ≡ b
unfolding step_text
same_step (Look m) (Look n) f g e =
    let digits : decimal m ≡ decimal n = cc in
    ap Look (decimal_injective m n (omega arith) (omega arith) digits)
same_step (Look m) (Visit b) f g e = absurd (no_mark 126 (decimal m) b (inr (omega arith)) e)
same_step (Visit a) (Look n) f g e = absurd (no_mark 126 (decimal n) a (inr (omega arith)) (sym e))
same_step (Visit a) (Visit b) f g e = ap Visit (same_mark a b f g e)

pub heads : (x y : ℕ) (a b : List ℕ) → x ∷ a ≡ y ∷ b → x ≡ y
heads x y a b e = cc

-- a text that begins with a dash (45) does not begin with a step
pub no_step : (text : List ℕ) (step : Step) (rest : List ℕ) → 45 ∷ text ≡ step_text step ++ rest → ⊥
unfolding step_text first_byte
no_step text (Look n) rest e = omega (arith, heads 45 126 text (decimal n ++ rest) e)
no_step text (Visit mark) rest e =
    let bounds = lane_begins mark.lane (58 ∷ (place_text mark ++ rest)) in
    let same : 45 ≡ first_byte (lane_text mark.lane ++ 58 ∷ (place_text mark ++ rest)) =
    ap first_byte (e ∙ ap (λ (x : List ℕ). x ++ rest) (mark_text-parts mark)
    ∙ append_assoc (lane_text mark.lane) (58 ∷ place_text mark) rest) in
    omega arith

-- a text that begins with a tilde (126) does not begin with a visit
pub no_mark_after : (text other : List ℕ) (mark : Mark) → 126 ∷ text ≡ mark_text mark ++ other → ⊥
unfolding first_byte
no_mark_after text other mark e =
    let bounds = lane_begins mark.lane (58 ∷ (place_text mark ++ other)) in
    let same : 126 ≡ first_byte (lane_text mark.lane ++ 58 ∷ (place_text mark ++ other)) =
    ap first_byte (e ∙ ap (λ (x : List ℕ). x ++ other) (mark_text-parts mark)
    ∙ append_assoc (lane_text mark.lane) (58 ∷ place_text mark) other) in
    omega arith

-- ---- the text of several steps

-- the text of the steps, with a comma after each step
abbrev pub commas : List Step → List ℕ
commas steps = flat_map (λ step. step_text step ++ codes ",") steps

pub steps_text-push : (steps : List Step) (step : Step)
    → steps_text (steps ++ step ∷ []) ≡ commas steps ++ step_text step
unfolding steps_text
steps_text-push [] step = refl
steps_text-push (s ∷ []) step = sym (append_assoc (step_text s ++ codes ",") [] (step_text step))
steps_text-push (s ∷ t ∷ steps) step = ap (λ (x : List ℕ). step_text s ++ codes "," ++ x)
    (steps_text-push (t ∷ steps) step) ∙ sym (append_assoc (step_text s ++ codes ",") (commas (t ∷ steps))
    (step_text step))

-- `all` has at least one step after those in `read`, and `rest` spells these further steps
pub record StepsAfter (read all : List Step) (rest : List ℕ) : Type 0 where
  pub following : List Step
  pub some : 0 < length following
  pub whole : all ≡ read ++ following
  pub fits : AllByRecursion StepFits following
  pub spelt : rest ≡ steps_text following

pub steps_after : (read all : List Step) (rest : List ℕ) → AllByRecursion StepFits read → AllByRecursion StepFits all
    → 0 < length all
    → commas read ++ rest ≡ steps_text all → StepsAfter read all rest
unfolding steps_text
steps_after [] all rest f g some e = record { following = all; some = some; whole = refl; fits = g; spelt = e }
steps_after (r ∷ read) [] rest f g some e = absurd (omega arith)
steps_after (r ∷ read) (a ∷ []) rest f g some e =
    let lack = step_lacks 44 comma_outside a g.0 in
    let cut : step_text r ++ 44 ∷ (commas read ++ rest) ≡ step_text a = simp append_assoc at e in
    absurd (not_lacking 44 (step_text r) (commas read ++ rest)
    (subst (λ (x : List ℕ). lacks 44 x ≡ true) (sym cut) lack))
steps_after (r ∷ read) (a ∷ b ∷ all) rest f g some e =
    let cut : step_text r ++ 44 ∷ (commas read ++ rest) ≡ step_text a ++ 44 ∷ steps_text (b ∷ all) =
    simp append_assoc at e in
    let parts = same_cut 44 (step_text r) (step_text a) (commas read ++ rest) (steps_text (b ∷ all))
    (step_lacks 44 comma_outside r f.0) (step_lacks 44 comma_outside a g.0) cut in
    let same = same_step r a f.0 g.0 parts.0 in
    let more = steps_after read (b ∷ all) rest f.1 g.1 (omega arith) parts.1 in
    record {
      following = more.following;
      some = more.some;
      whole = ap (λ (s : Step). s ∷ (b ∷ all)) (sym same) ∙ ap (λ (ss : List Step). r ∷ ss) more.whole;
      fits = more.fits;
      spelt = more.spelt;
    }

pub begins_so : (byte : ℕ) (text : List ℕ) → 0 < length text → get_or text 0 0 ≡ byte
    → text ≡ byte ∷ take (length text - 1) (drop 1 text)
begins_so byte [] some e = absurd (omega arith)
begins_so byte (b ∷ text) some e = let n : suc (length text) - 1 ≡ length text = omega arith in
    rw n (rw (take_all (length text) text (omega arith)) (ap (λ (x : ℕ). x ∷ text) e))

-- ---- reading several steps one after the other

-- `text` is the steps that were read, with a comma after each, and then `rest`
pub record StepsRead (text : List ℕ) (read : List Step) (rest : List ℕ) : Type 0 where
  pub each : AllByRecursion StepFits read
  pub some : text ≡ codes "-" → ⊥
  pub whole : text ≡ commas read ++ rest

some_steps : (text : List ℕ) (all : List Step) → (text ≡ codes "-" → ⊥) → text ≡ steps_text all → 0 < length all
unfolding steps_text
some_steps text [] not e = absurd (not e)
some_steps text (a ∷ all) not e = omega arith

pub after_read : (text rest : List ℕ) (read all : List Step) → StepsRead text read rest → StepsFit all
    → text ≡ steps_text all → StepsAfter read all rest
after_read text rest read all so_far fits e =
    steps_after read all rest so_far.each fits.each (some_steps text all so_far.some e) (sym so_far.whole ∙ e)

-- if twenty steps were read from `text`, with a comma after each, `text` is not the text of twenty steps or fewer
pub too_many : (text rest : List ℕ) (read : List Step) → StepsRead text read rest → 20 ≤ length read
    → (all : List Step) → StepsFit all → text ≡ steps_text all → ⊥
too_many text rest read so_far many all fits e =
    let b = after_read text rest read all so_far fits e in
    omega (arith, fits.few, b.some, ap length b.whole, length-append read b.following)

pub reads_last : (text rest : List ℕ) (read new : List Step) (step : Step) → StepsRead text read rest → StepFits step
    → rest ≡ step_text step
    → new ≡ read ++ step ∷ [] → length read < 20 → StepsFit new × (text ≡ steps_text new)
reads_last text rest read new step so_far fits e is few = (
  record {
    few = omega (arith, ap length is, length_push read step);
    each = rw is (each_more StepFits read step so_far.each fits);
  },
  so_far.whole ∙ ap (λ (x : List ℕ). commas read ++ x) e ∙ sym (ap steps_text is ∙ steps_text-push read step),
)

pub reads_none_at_all : (text : List ℕ) (steps : List Step) → steps ≡ [] → text ≡ codes "-" → StepsFit steps
    × (text ≡ steps_text steps)
unfolding steps_text
reads_none_at_all text steps is e = rw is (record { few = omega arith; each = tt }, e)
