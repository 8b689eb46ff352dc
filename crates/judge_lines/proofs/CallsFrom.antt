-- Calls are made event by event. Each event adds a call to the calls so far, or is an act that waits for the next
-- `vread`.
use Rattle.std.proofs.Common.{◌≡◌, ℕ, zero, suc, ◌+◌, ◌<◌, Bool, true, false, List, [], ◌∷◌, ◌++◌, length, get_or, take, drop, refl, sym, ap, ◌∙◌, arith, map, subst, append_assoc}
use Rattle.std.specs.Prelude.{nat_lt, ◌||◌, if◌then◌else◌}
use Rattle.std.proofs.lemmas.Bool.Decides.{nat_tests}
use Rattle.std.proofs.lemmas.List.{take_more, length-take-le, map-append, at_drop_all}
use Rattle.key_names.specs.declared.events.Event.{Event}
use Rattle.key_names.specs.declared.events.Event.TheVariants.{Vread, Inside}
use Rattle.key_names.specs.declared.events.InsideAct.{InsideAct}
use Rattle.key_names.specs.declared.point.Point.{Point}
use Rattle.key_names.specs.Transcripts.SeenLine.{SeenLine}
use Rattle.key_names.specs.Callers.Calls.{Call, alone, vread_call, unbound, ending, BoundAct, has_vread, calls_from}
use Rattle.judge_lines.specs.declared.bare.BareLine.{BareLine}
use Rattle.judge_lines.specs.declared.called.ActLine.{ActLine}
use Rattle.judge_lines.specs.declared.called.CalledLines.{CalledLines}
use Rattle.judge_lines.specs.Seen.{seen_bare}
use Rattle.judge_lines.proofs.Fronts.{dropped}
use Rattle.judge_lines.specs.Called.{is_vread, seen_act, seen_call}

has_more : (es : List Event) (e : Event) → has_vread (es ++ e ∷ []) ≡ (has_vread es || is_vread e)
has_more [] (Vread n f) = refl
has_more [] e = refl
has_more (Vread n f ∷ es) e = refl
has_more (x ∷ es) e = has_more es e

drop_none : {X : Type 0} (k : ℕ) → drop {A = X} k [] ≡ []
drop_none zero = refl
drop_none (suc k) = refl

or_true : (b : Bool) → (b || true) ≡ true
or_true true = refl
or_true false = refl

or_false : (b : Bool) → (b || false) ≡ b
or_false true = refl
or_false false = refl

-- if the last event `e` is a `vread`, each non-empty tail of the events contains a `vread`
vread_last : (es : List Event) (e : Event) → is_vread e ≡ true → (k : ℕ) →
    has_vread (drop k (es ++ e ∷ [])) ≡ nat_lt k (length es + 1)
vread_last es e is zero =
    has_more es e ∙ ap (λ b. has_vread es || b) is ∙ or_true (has_vread es)
    ∙ (let n : nat_lt 0 (length es + 1) ≡ true = grind (arith, nat_tests) in sym n)
vread_last [] e is (suc k) =
    ap has_vread (drop_none k)
    ∙ (let n : nat_lt (suc k) (length {A = Event} [] + 1) ≡ false = grind (arith, nat_tests) in sym n)
vread_last (x ∷ es) e is (suc k) =
    vread_last es e is k
    ∙ (let n : nat_lt k (length es + 1) ≡ nat_lt (suc k) (suc (length es) + 1) = grind (arith, nat_tests) in n)

-- if `e` is not a `vread`, appending `e` to the events does not change whether a tail of them contains a `vread`
other_last : (es : List Event) (e : Event) → is_vread e ≡ false → (k : ℕ) →
    has_vread (drop k (es ++ e ∷ [])) ≡ has_vread (drop k es)
other_last es e is zero = has_more es e ∙ ap (λ b. has_vread es || b) is ∙ or_false (has_vread es)
other_last [] e is (suc k) = ap has_vread (drop_none k)
other_last (x ∷ es) e is (suc k) = other_last es e is k

module _ (es : List Event) (i : ℕ) (e : Event) (low : i < length es) (at : e ≡ get_or es i e) where
  one_more : (k : ℕ) → drop k (take (i + 1) es) ≡ drop k (take i es ++ e ∷ [])
  one_more k = ap (drop k) (take_more es i e low ∙ ap (λ x. take i es ++ x ∷ []) (sym at))

  -- if event i is a `vread`, each non-empty tail of the first i + 1 events contains a `vread`
  pub ends_at_vread : is_vread e ≡ true → (k : ℕ) → has_vread (drop k (take (i + 1) es)) ≡ nat_lt k (i + 1)
  ends_at_vread is k =
      ap has_vread (one_more k) ∙ vread_last (take i es) e is k
      ∙ ap (λ n. nat_lt k (n + 1)) (length-take-le i es (omega arith))

  pub ends_before : is_vread e ≡ false → (k : ℕ) → has_vread (drop k (take (i + 1) es)) ≡ has_vread (drop k (take i es))
  ends_before is k = ap has_vread (one_more k) ∙ other_last (take i es) e is k

-- an event that is neither a `vread` nor an act makes a call of its own
pub alone_first : (w : List BoundAct) (e : Event) (es : List Event) (l : SeenLine) (ls : List SeenLine) →
    ((n f : ℕ) → e ≡ Vread n f → ⊥) → ((p : Point) (a : InsideAct) → e ≡ Inside p a → ⊥) →
    calls_from w (e ∷ es) (l ∷ ls) ≡ alone e l ∷ calls_from w es ls
alone_first w (Vread n f) es l ls not_vread not_inside = absurd (not_vread n f refl)
alone_first w (Inside p a) es l ls not_vread not_inside = absurd (not_inside p a refl)
alone_first w e es l ls not_vread not_inside = refl

-- suppose that the first n events made `calls`, and that the acts in `waiting` have no `vread` yet; `e` is the next
-- event, and `l` its line
module _ (events : List Event) (lines : List BareLine) (n : ℕ) (e : Event) (l : BareLine) (low : n < length events)
    (low' : n < length lines) (is : e ≡ get_or events n e) (is' : l ≡ get_or lines n l) (calls : List CalledLines)
    (waiting : List ActLine) (whole : List Call)
    (so_far : map seen_call calls
    ++ calls_from (map seen_act waiting) (drop n events) (map seen_bare (drop n lines)) ≡ whole) where
  abbrev es : List Event
  es = drop (n + 1) events

  abbrev ls : List SeenLine
  ls = map seen_bare (drop (n + 1) lines)

  here : map seen_call calls ++ calls_from (map seen_act waiting) (e ∷ es) (seen_bare l ∷ ls) ≡ whole
  here = sym (λ i. map seen_call calls
      ++ calls_from (map seen_act waiting) (dropped events n e low is i) (map seen_bare (dropped lines n l low' is' i))) ∙ so_far

  -- if the next event makes `call`, this call comes after `calls`
  makes : (call : CalledLines) (left : List BoundAct) →
      calls_from (map seen_act waiting) (e ∷ es) (seen_bare l ∷ ls) ≡ seen_call call ∷ calls_from left es ls →
      map seen_call (calls ++ call ∷ []) ++ calls_from left es ls ≡ whole
  makes call left made =
      ap (λ cs. cs ++ calls_from left es ls) (map-append seen_call calls (call ∷ []))
      ∙ append_assoc (map seen_call calls) (seen_call call ∷ []) (calls_from left es ls)
      ∙ ap (λ cs. map seen_call calls ++ cs) (sym made) ∙ here

  pub vread_next : (k f : ℕ) → e ≡ Vread k f → (call : CalledLines) →
      seen_call call ≡ vread_call k f (seen_bare l) (map seen_act waiting) →
      map seen_call (calls ++ call ∷ []) ++ calls_from [] es ls ≡ whole
  vread_next k f e_is call call_is = makes call []
      (ap (λ x. calls_from (map seen_act waiting) (x ∷ es) (seen_bare l ∷ ls)) e_is ∙ ap (λ x. x ∷ calls_from [] es ls) (sym call_is))

  pub alone_next : ((k f : ℕ) → e ≡ Vread k f → ⊥) → ((p : Point) (a : InsideAct) → e ≡ Inside p a → ⊥) → (call : CalledLines) →
      seen_call call ≡ alone e (seen_bare l) →
      map seen_call (calls ++ call ∷ []) ++ calls_from (map seen_act waiting) es ls ≡ whole
  alone_next not_vread not_inside call call_is = makes call (map seen_act waiting)
      (alone_first (map seen_act waiting) e es (seen_bare l) ls not_vread not_inside
      ∙ ap (λ x. x ∷ calls_from (map seen_act waiting) es ls) (sym call_is))

  abbrev bound_of : Point → InsideAct → BoundAct
  bound_of p a = record { point = p; act = a; line = seen_bare l }

  pub unbound_next : (p : Point) (a : InsideAct) → e ≡ Inside p a → has_vread es ≡ false → (call : CalledLines) →
      seen_call call ≡ unbound (record { point = p; act = a; line = seen_bare l }) →
      map seen_call (calls ++ call ∷ []) ++ calls_from (map seen_act waiting) es ls ≡ whole
  unbound_next p a e_is none call call_is = makes call (map seen_act waiting)
      (ap (λ x. calls_from (map seen_act waiting) (x ∷ es) (seen_bare l ∷ ls)) e_is
      ∙ ap (λ (b : Bool). if b then calls_from (map seen_act waiting ++ bound_of p a ∷ []) es ls
      else unbound (bound_of p a) ∷ calls_from (map seen_act waiting) es ls) none
      ∙ ap (λ x. x ∷ calls_from (map seen_act waiting) es ls) (sym call_is))

  pub waits_next : (p : Point) (a : InsideAct) → e ≡ Inside p a → has_vread es ≡ true → (act : ActLine) →
      seen_act act ≡ record { point = p; act = a; line = seen_bare l } →
      map seen_call calls ++ calls_from (map seen_act (waiting ++ act ∷ [])) es ls ≡ whole
  waits_next p a e_is some act act_is =
      ap (λ (w : List BoundAct). map seen_call calls ++ calls_from w es ls) (map-append seen_act waiting (act ∷ [])
      ∙ ap (λ x. map seen_act waiting ++ x ∷ []) act_is)
      ∙ ap (λ cs. map seen_call calls ++ cs)
      (sym (ap (λ x. calls_from (map seen_act waiting) (x ∷ es) (seen_bare l ∷ ls)) e_is
      ∙ ap (λ (b : Bool). if b then calls_from (map seen_act waiting ++ bound_of p a ∷ []) es ls
      else unbound (bound_of p a) ∷ calls_from (map seen_act waiting) es ls) some))
      ∙ here

-- the last line, which is the line of the caller's end, makes the caller's last call
pub calls_end : (events : List Event) (lines : List BareLine) (n : ℕ) (l : BareLine) (calls : List CalledLines)
    (waiting : List BoundAct) (whole : List Call) (call : CalledLines) → n ≡ length events → length lines ≡ length events + 1 →
    l ≡ get_or lines (length events) l → seen_call call ≡ ending (seen_bare l) →
    map seen_call calls ++ calls_from waiting (drop n events) (map seen_bare (drop n lines)) ≡ whole →
    map seen_call (calls ++ call ∷ []) ≡ whole
calls_end events lines n l calls waiting whole call same long is call_is so_far =
    let none : drop n events ≡ [] = at_drop_all (λ x. x) events n (omega arith) in
    let at : l ≡ get_or lines n l = subst (λ k. l ≡ get_or lines k l) (sym same) is in
    let one : drop n lines ≡ l ∷ drop (n + 1) lines = dropped lines n l (omega arith) at in
    map-append seen_call calls (call ∷ []) ∙ ap (λ x. map seen_call calls ++ x ∷ []) call_is
    ∙ sym (λ i. map seen_call calls ++ calls_from waiting (none i) (map seen_bare (one i)))
    ∙ so_far
