-- A field is read as a value if and only if it is that value's spelling. The same holds for all fields after a word.
use Rattle.std.proofs.Common.{◌≡◌, ℕ, ◌^◌, ◌<◌, ◌≤◌, ◌==◌, arith, ltb, Bool, true, false, cond, Option, Some, None, Result, Ok, Err, List, [], ◌∷◌, length, refl, sym, ap, subst, ◌∙◌}
use Rattle.std.specs.Prelude.{⊤}
use Rattle.std.specs.Fmt.{decimal}
use Rattle.std.specs.Option.{ok_or}
use Rattle.std.proofs.lemmas.Bool.{eq-eqb, eqb-true, le-ltb, ltb-false}
use Rattle.hex.specs.Hex.{IsBytes}
use Rattle.key_names.specs.declared.events.Event.{Event}
use Rattle.key_names.specs.declared.faults.FaultKind.{FaultKind}
use Rattle.key_names.specs.declared.faults.FaultKind.TheVariants.{BadNumber, BadHex}
use Rattle.key_names.specs.Kernel.Points.{number_of, point_numbered}
use Rattle.key_names.specs.Texts.Spelling.{hex}
use Rattle.key_names.specs.Texts.ScriptFaults.{◌>>=◌, binary, bytes, bytes_of, hardware_words, no_field, number, point_of, number_below, number_in, one_field, plain, two_fields, unary}
use Rattle.key_names.proofs.Points.{point_again, number_small, numbered}
use Rattle.key_names.proofs.Script.HexFields.{bytes_again, bytes_takes}
use Rattle.key_names.proofs.Script.Numbers.{number_again, number_takes}

-- if `r >>= f` gives the value `y`, then `r` gives some value `x`, and `f x` gives `y`
pub step_ok : {A B E : Type 0} (r : Result A E) (f : A → Result B E) (y : B) → (r >>= f) ≡ Ok y →
    (x : A) × (r ≡ Ok x) × (f x ≡ Ok y)
step_ok (Ok x) f y e = (x, refl, e)
step_ok (Err k) f y e = absurd cc

abbrev ok : {A E : Type 0} → A → Result A E
ok x = Ok x

pub same_ok : {A E : Type 0} (x y : A) → ok {E = E} x ≡ ok y → x ≡ y
same_ok x y e = cc

pub found : {A E : Type 0} (o : Option A) (k : E) (x : A) → ok_or o k ≡ Ok x → o ≡ Some x
found {A} {E} (Some y) k x e = ap (λ (z : A). Some z) (same_ok {A = A} {E = E} y x e)
found None k x e = absurd cc

-- `read` takes a field as the value `a` exactly if `Fits a` holds and the field is `spell a`
pub record Spells {A : Type 0} (read : List ℕ → Result A FaultKind) (spell : A → List ℕ) (Fits : A → Type 0)
    : Type 0 where
  pub takes : (field : List ℕ) (a : A) → read field ≡ Ok a → (field ≡ spell a) × Fits a
  pub again : (a : A) → Fits a → read (spell a) ≡ Ok a

pub numbers : (limit : ℕ) → limit ≤ 2 ^ 64 → Spells (number limit) decimal (λ n. n < limit)
numbers limit wide = record {
  takes = λ field n e. let is = number_takes limit n field (found (number_below limit field) BadNumber n e) in
      (is.1, is.0);
  again = λ n below. ap (λ o. ok_or o BadNumber) (number_again limit n below wide);
}

chosen : {A E : Type 0} (t : Bool) (k : E) (x y : A) → cond t (Err k) (Ok x) ≡ Ok y → (t ≡ false) × (x ≡ y)
chosen {A} {E} false k x y e = (refl, same_ok {A = A} {E = E} x y e)
chosen true k x y e = absurd cc

chosen_first : {A E : Type 0} (t : Bool) (k : E) (x y : A) → cond t (Ok x) (Err k) ≡ Ok y → (t ≡ true) × (x ≡ y)
chosen_first {A} {E} true k x y e = (refl, same_ok {A = A} {E = E} x y e)
chosen_first false k x y e = absurd cc

in_takes : (least limit : ℕ) → limit ≤ 2 ^ 64 → (field : List ℕ) (n : ℕ) → number_in least limit field ≡ Ok n
    → (field ≡ decimal n) × ((least ≤ n) × (n < limit))
in_takes least limit wide field n e =
    let step = step_ok (number limit field) (λ m. cond (ltb m least) (Err BadNumber) (Ok m)) n e in
    let is = (numbers limit wide).takes field step.0 step.1 in
    let low = chosen (ltb step.0 least) BadNumber step.0 n step.2 in
    (rw (← low.1) is.0, (rw (← low.1) (ltb-false _ _ low.0), rw (← low.1) is.1))

pub numbers_in : (least limit : ℕ) → limit ≤ 2 ^ 64 →
    Spells (number_in least limit) decimal (λ n. (least ≤ n) × (n < limit))
numbers_in least limit wide = record {
  takes = in_takes least limit wide;
  again = λ n range. rw ((numbers limit wide).again n range.1, le-ltb n least range.0) refl;
}

pub points : Spells point_of (λ p. decimal (number_of p)) (λ p. ⊤)
points = record {
  takes = λ field p e.
      let step = step_ok (number 5 field) (λ n. ok_or (point_numbered n) BadNumber) p e in
      let is = (numbers 5 (omega arith)).takes field step.0 step.1 in
      (is.0 ∙ ap decimal (numbered step.0 p (found (point_numbered step.0) BadNumber p step.2)), tt);
  again = λ p fits. rw ((numbers 5 (omega arith)).again (number_of p) (omega (arith, number_small p)), point_again p) refl;
}

pub byte_fields : Spells bytes hex IsBytes
byte_fields = record {
  takes = λ field bs e. bytes_takes field bs (found (bytes_of field) BadHex bs e);
  again = λ bs small. ap (λ o. ok_or o BadHex) (bytes_again bs small);
}

hardware_takes : (field bs : List ℕ) → hardware_words field ≡ Ok bs → (field ≡ hex bs) × (IsBytes bs × (length bs ≡ 32))
hardware_takes field bs e =
    let step = step_ok (bytes field) (λ words. cond (length words == 32) (Ok words) (Err BadHex)) bs e in
    let is = byte_fields.takes field step.0 step.1 in
    let long = chosen_first (length step.0 == 32) BadHex step.0 bs step.2 in
    (rw (← long.1) is.0, (rw (← long.1) is.1, rw (← long.1) (eqb-true _ _ long.0)))

pub hardware_fields : Spells hardware_words hex (λ bs. IsBytes bs × (length bs ≡ 32))
hardware_fields = record {
  takes = hardware_takes;
  again = λ bs fits. rw (byte_fields.again bs fits.0, eq-eqb (length bs) 32 fits.1) refl;
}

-- ---- reading the fields after a line's word

pub none_is : (fields none : List (List ℕ)) → no_field fields ≡ Ok none → fields ≡ []
none_is [] none e = refl
none_is (a ∷ fields) none e = absurd cc

pub one_is : (fields : List (List ℕ)) (field : List ℕ) → one_field fields ≡ Ok field → fields ≡ field ∷ []
one_is (a ∷ []) field e = ap (λ (f : List ℕ). f ∷ []) (same_ok {E = FaultKind} a field e)
one_is [] field e = absurd cc
one_is (a ∷ b ∷ fields) field e = absurd cc

pub two_are : (fields : List (List ℕ)) (both : List ℕ × List ℕ) → two_fields fields ≡ Ok both → fields ≡ both.0 ∷
    both.1 ∷ []
two_are (a ∷ b ∷ []) both e = ap (λ (p : List ℕ × List ℕ). p.0 ∷ p.1 ∷ []) (same_ok {E = FaultKind} (a, b) both e)
two_are [] both e = absurd cc
two_are (a ∷ []) both e = absurd cc
two_are (a ∷ b ∷ c ∷ fields) both e = absurd cc

-- if `read` takes some fields as an event, then P holds for these fields and this event
abbrev pub Takes : (List (List ℕ) → Result Event FaultKind) → (List (List ℕ) → Event → Type 0) → Type 0
Takes read P = (fields : List (List ℕ)) (event : Event) → read fields ≡ Ok event → P fields event

pub plain_takes : (event : Event) (P : List (List ℕ) → Event → Type 0) → P [] event → Takes (plain event) P
plain_takes event P holds fields e is =
    let step = step_ok (no_field fields) (λ none. Ok event) e is in
    subst (λ x. P fields x) (same_ok {E = FaultKind} event e step.2)
    (subst (λ f. P f event) (sym (none_is fields step.0 step.1)) holds)

pub unary_takes : {A : Type 0} {first : List ℕ → Result A FaultKind} {spell : A → List ℕ} {Fits : A → Type 0}
    → Spells first spell Fits → (make : A → Event) (P : List (List ℕ) → Event → Type 0)
    → ((a : A) → Fits a → P (spell a ∷ []) (make a)) → Takes (unary first make) P
unary_takes {A} {first} {spell} spells make P holds fields e is =
    let step = step_ok (one_field fields) (λ field. first field >>= λ a. Ok (make a)) e is in
    let value = step_ok (first step.0) (λ a. Ok (make a)) e step.2 in
    let a = spells.takes step.0 value.0 value.1 in
    subst (λ x. P fields x) (same_ok {E = FaultKind} (make value.0) e value.2)
    (subst (λ f. P f (make value.0)) (sym (one_is fields step.0 step.1 ∙ ap (λ (f : List ℕ). f ∷ []) a.0))
    (holds value.0 a.1))

pub binary_takes : {A B : Type 0} {first : List ℕ → Result A FaultKind} {second : List ℕ →
    Result B FaultKind} {spell : A → List ℕ} {spell_second : B → List ℕ}
    {Fits : A → Type 0} {FitsSecond : B → Type 0} → Spells first spell Fits → Spells second spell_second FitsSecond
    → (make : A → B → Event) (P : List (List ℕ) → Event → Type 0)
    → ((a : A) (b : B) → Fits a → FitsSecond b → P (spell a ∷ spell_second b ∷ []) (make a b)) →
    Takes (binary first second make) P
binary_takes {A} {B} {first} {second} {spell} {spell_second} spells seconds make P holds fields e is =
    let step = step_ok (two_fields fields) (λ both. first both.0 >>= λ a. second both.1 >>= λ b. Ok (make a b)) e is in
    let one = step_ok (first step.0.0) (λ a. second step.0.1 >>= λ b. Ok (make a b)) e step.2 in
    let two = step_ok (second step.0.1) (λ b. Ok (make one.0 b)) e one.2 in
    let a = spells.takes step.0.0 one.0 one.1 in
    let b = seconds.takes step.0.1 two.0 two.1 in
    let spelt : fields ≡ spell one.0 ∷ spell_second two.0 ∷ [] =
    two_are fields step.0 step.1 ∙ ap (λ (f : List ℕ). f ∷ step.0.1 ∷ []) a.0
    ∙ ap (λ (f : List ℕ). spell one.0 ∷ f ∷ []) b.0 in
    subst (λ x. P fields x) (same_ok {E = FaultKind} (make one.0 two.0) e two.2)
    (subst (λ f. P f (make one.0 two.0)) (sym spelt) (holds one.0 two.0 a.1 b.1))

pub unary_again : {A : Type 0} {first : List ℕ → Result A FaultKind} {spell : A → List ℕ} {Fits : A → Type 0}
    → Spells first spell Fits → (make : A → Event) (a : A) → Fits a → unary first make (spell a ∷ []) ≡ Ok (make a)
unary_again spells make a fits = rw (spells.again a fits) refl

pub binary_again : {A B : Type 0} {first : List ℕ → Result A FaultKind} {second : List ℕ →
    Result B FaultKind} {spell : A → List ℕ} {spell_second : B → List ℕ}
    {Fits : A → Type 0} {FitsSecond : B → Type 0} → Spells first spell Fits → Spells second spell_second FitsSecond
    → (make : A → B → Event) (a : A) (b : B) → Fits a → FitsSecond b →
    binary first second make (spell a ∷ spell_second b ∷ []) ≡ Ok (make a b)
binary_again spells seconds make a b fits fits_second = rw (spells.again a fits, seconds.again b fits_second) refl
