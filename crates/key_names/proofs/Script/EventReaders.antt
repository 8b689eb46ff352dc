-- The fields after a word are read as an event if and only if the event is in range and these are its fields.
use Rattle.std.proofs.Common.{◌≡◌, ℕ, ◌^◌, ◌<◌, ◌≤◌, leb, Bool, true, false, cond, inl, inr, Result, Ok, Err, List, [], ◌∷◌, refl, sym, ap, subst, ◌∙◌, arith}
use Rattle.std.specs.Prelude.{codes}
use Rattle.std.specs.Str.{bytes_eq}
use Rattle.std.proofs.lemmas.Bool.{cases_Bool, le-leb, leb-true}
use Rattle.std.proofs.lemmas.Slice.Eq.{bytes_eq-Decides}
use Rattle.key_names.specs.declared.events.Event.{Event}
use Rattle.key_names.specs.declared.events.Event.TheVariants.{At, On, Hw, Device, Write, Add, Credit, Bits, Irq, Input, Read, Vread, Kread, Dread, Uread, Int8, Int16, Int32, Int64, Reseed, Tick, Drop, Fork, Inside, Prepare, Online, Vmfork, State}
use Rattle.key_names.specs.declared.events.InsideAct.{InsideAct}
use Rattle.key_names.specs.declared.point.Point.{Point}
use Rattle.key_names.specs.declared.events.InsideAct.TheVariants.{Wipe, Vread as VreadAct, Reseed as ReseedAct}
use Rattle.key_names.specs.declared.events.Word.{Word}
use Rattle.key_names.specs.declared.events.Word.TheVariants as words
use Rattle.key_names.specs.declared.faults.FaultKind.{FaultKind}
use Rattle.key_names.specs.declared.faults.FaultKind.TheVariants.{UnknownWord}
use Rattle.key_names.specs.Texts.ScriptGrammar.{ActInRange, InRange, act_fields, arguments, event_word}
use Rattle.key_names.specs.Texts.ScriptFaults.{◌>>=◌, event_of, four_fields, input_of, inside_of, number, point_of, one_field, since, two_fields, vread_at}
use Rattle.key_names.proofs.Script.FieldReaders.{points, Takes, binary_again, binary_takes, byte_fields, hardware_fields, numbers, numbers_in, one_is, plain_takes, same_ok, step_ok, two_are, unary_again, unary_takes}

-- the event has the word `by` and these fields, and the fields are in range
pub record IsEvent (version cpus : ℕ) (by : Word) (fields : List (List ℕ)) (event : Event) : Type 0 where
  pub word : event_word event ≡ by
  pub spelt : fields ≡ arguments event
  pub range : InRange version cpus event

-- ---- reading an `input` event

four_are : (fields : List (List ℕ)) (all : (List ℕ × List ℕ) × (List ℕ × List ℕ)) → four_fields fields ≡ Ok all
    → fields ≡ all.0.0 ∷ all.0.1 ∷ all.1.0 ∷ all.1.1 ∷ []
four_are [] all e = absurd cc
four_are (a ∷ []) all e = absurd cc
four_are (a ∷ b ∷ fields) all e =
    let step = step_ok (two_fields fields) (λ both. Ok ((a, b), both)) all e in
    ap (λ (others : List (List ℕ)). a ∷ b ∷ others) (two_are fields step.0 step.1)
    ∙ ap (λ (p : (List ℕ × List ℕ) × (List ℕ × List ℕ)). p.0.0 ∷ p.0.1 ∷ p.1.0 ∷ p.1.1 ∷ [])
    (same_ok {E = FaultKind} ((a, b), step.0) all step.2)

input_takes : (version cpus : ℕ) → Takes input_of (IsEvent version cpus words.Input)
input_takes version cpus fields e is =
    let step = step_ok (four_fields fields) (λ all. number (2 ^ 64) all.0.0 >>= λ word. number 65536 all.0.1 >>= λ kind.
    number 65536 all.1.0 >>= λ code. number 256 all.1.1 >>= λ value. Ok (Input word kind code value)) e is in
    let all = step.0 in
    let word = step_ok (number (2 ^ 64) all.0.0) (λ word. number 65536 all.0.1 >>= λ kind.
    number 65536 all.1.0 >>= λ code. number 256 all.1.1 >>= λ value. Ok (Input word kind code value)) e step.2 in
    let kind = step_ok (number 65536 all.0.1) (λ kind. number 65536 all.1.0 >>= λ code. number 256 all.1.1 >>= λ value.
    Ok (Input word.0 kind code value)) e word.2 in
    let code = step_ok (number 65536 all.1.0) (λ code. number 256 all.1.1 >>= λ value. Ok
    (Input word.0 kind.0 code value)) e kind.2 in
    let value = step_ok (number 256 all.1.1) (λ value. Ok (Input word.0 kind.0 code.0 value)) e code.2 in
    let w = (numbers (2 ^ 64) (omega arith)).takes all.0.0 word.0 word.1 in
    let k = (numbers 65536 (omega arith)).takes all.0.1 kind.0 kind.1 in
    let c = (numbers 65536 (omega arith)).takes all.1.0 code.0 code.1 in
    let v = (numbers 256 (omega arith)).takes all.1.1 value.0 value.1 in
    subst (λ x. IsEvent version cpus words.Input fields x)
    (same_ok {E = FaultKind} (Input word.0 kind.0 code.0 value.0) e value.2)
    (record { word = refl; spelt = four_are fields all step.1 ∙ cc (w.0, k.0, c.0, v.0); range = (w.1, k.1, c.1, v.1) })

input_again : (word kind code value : ℕ) → (word < 2 ^ 64) × (kind < 65536) × (code < 65536) × (value < 256)
    → input_of (arguments (Input word kind code value)) ≡ Ok (Input word kind code value)
input_again word kind code value range =
    rw (
      (numbers (2 ^ 64) (omega arith)).again word range.0,
      (numbers 65536 (omega arith)).again kind range.1,
      (numbers 65536 (omega arith)).again code range.2,
      (numbers 256 (omega arith)).again value range.3,
    ) refl

-- ---- reading an act inside a vread

abbrev IsAct : ℕ → ℕ → List (List ℕ) → Event → Type 0
IsAct version cpus fields e = IsEvent version cpus words.Inside fields e

act_takes : (version cpus : ℕ) (point act : List ℕ) (what : InsideAct) (e : Event) → act_fields what ≡ act ∷ [] →
    ActInRange what
    → (point_of point >>= λ p. Ok (Inside p what)) ≡ Ok e → IsAct version cpus (point ∷ act ∷ []) e
act_takes version cpus point act what e spelt fits is =
    let step = step_ok (point_of point) (λ p. Ok (Inside p what)) e is in
    let p = points.takes point step.0 step.1 in
    subst (λ x. IsAct version cpus (point ∷ act ∷ []) x) (same_ok {E = FaultKind} (Inside step.0 what) e step.2)
    (record { word = refl; spelt = cc (p.0, spelt); range = fits })

vread_takes : (version cpus : ℕ) (point act len : List ℕ) (e : Event) → act ≡ codes "vread"
    → (point_of point >>= λ p. number 1048577 len >>= λ n. Ok (Inside p (VreadAct n))) ≡ Ok e →
    IsAct version cpus (point ∷ act ∷ len ∷ []) e
vread_takes version cpus point act len e spelt is =
    let step = step_ok (point_of point) (λ p. number 1048577 len >>= λ n. Ok (Inside p (VreadAct n))) e is in
    let last = step_ok (number 1048577 len) (λ n. Ok (Inside step.0 (VreadAct n))) e step.2 in
    let p = points.takes point step.0 step.1 in
    let n = (numbers 1048577 (omega arith)).takes len last.0 last.1 in
    subst (λ x. IsAct version cpus (point ∷ act ∷ len ∷ []) x)
    (same_ok {E = FaultKind} (Inside step.0 (VreadAct last.0)) e last.2)
    (record {
      word = refl;
      spelt = cc (p.0, n.0, spelt);
      range = omega (arith, n.1);
    })

pub text_is : (field text : List ℕ) → bytes_eq field text ≡ true → field ≡ text
text_is field text e = (bytes_eq-Decides field text).0 e

only_then : {A : Type 0} (t : Bool) (r : Result A FaultKind) (kind : FaultKind) (x : A) → cond t r (Err kind) ≡
    Ok x → (t ≡ true) × (r ≡ Ok x)
only_then true r kind x e = (refl, e)
only_then false r kind x e = absurd cc

inside_takes : (version cpus : ℕ) → Takes inside_of (IsAct version cpus)
inside_takes version cpus [] e is = absurd cc
inside_takes version cpus (point ∷ []) e is = absurd cc
inside_takes version cpus (point ∷ act ∷ []) e is =
    elim (cases_Bool (bytes_eq act (codes "wipe"))) [
      | inl wipe ↦ act_takes version cpus point act Wipe e
          (ap (λ (f : List ℕ). f ∷ []) (sym (text_is act (codes "wipe") wipe))) tt (rw wipe at is)
      | inr not ↦
          elim (cases_Bool (bytes_eq act (codes "reseed"))) [
            | inl reseed ↦ act_takes version cpus point act ReseedAct e
                (ap (λ (f : List ℕ). f ∷ []) (sym (text_is act (codes "reseed") reseed))) tt (rw (not, reseed) at is)
            | inr neither ↦ let none = rw (not, neither) at is in absurd cc
          ]
    ]
inside_takes version cpus (point ∷ act ∷ len ∷ more) e is =
    let step = step_ok (one_field (len ∷ more)) (λ field. cond (bytes_eq act (codes "vread")) (vread_at point field)
    (Err UnknownWord)) e is in
    let chosen = only_then (bytes_eq act (codes "vread")) (vread_at point step.0) UnknownWord e step.2 in
    subst (λ others. IsAct version cpus (point ∷ act ∷ others) e) (sym (one_is (len ∷ more) step.0 step.1))
    (vread_takes version cpus point act step.0 e (text_is act (codes "vread") chosen.0) chosen.1)

inside_again : (point : Point) (act : InsideAct) → ActInRange act
    → inside_of (arguments (Inside point act)) ≡ Ok (Inside point act)
inside_again point Wipe range = rw (points.again point tt) refl
inside_again point (VreadAct len) range =
    rw (points.again point tt, (numbers 1048577 (omega arith)).again len (omega (arith, range))) refl
inside_again point ReseedAct range = rw (points.again point tt) refl

-- ---- reading the event of any word

since_takes : (first version : ℕ) (r : Result Event FaultKind) (e : Event) → since first version r ≡ Ok e →
    (first ≤ version) × (r ≡ Ok e)
since_takes first version r e is =
    elim (cases_Bool (leb first version)) [
      | inl there ↦ (leb-true _ _ there, rw there at is)
      | inr not ↦ let none = rw not at is in absurd cc
    ]

-- let IsEvent hold for all events that `read` takes in the versions from `first` on. If `since` limits `read` to these
-- versions, IsEvent holds for all events that the limited reader takes in any version
later_takes : (first version cpus : ℕ) (word : Word) (read : List (List ℕ) → Result Event FaultKind)
    → (first ≤ version → Takes read (IsEvent version cpus word)) →
    Takes (λ fields. since first version (read fields)) (IsEvent version cpus word)
later_takes first version cpus word read takes fields e is =
    let there = since_takes first version (read fields) e is in
    takes there.0 fields e there.1

pub event_takes : (version cpus : ℕ) (word : Word) → cpus ≤ 256 →
    Takes (event_of version cpus word) (IsEvent version cpus word)
event_takes version cpus words.At few = unary_takes (numbers (2 ^ 40) (omega arith)) At (IsEvent version cpus words.At)
    (λ a fits. record { word = refl; spelt = refl; range = fits })
event_takes version cpus words.On few = unary_takes (numbers cpus (omega arith)) On (IsEvent version cpus words.On)
    (λ a fits. record { word = refl; spelt = refl; range = fits })
event_takes version cpus words.Hw few = unary_takes hardware_fields Hw (IsEvent version cpus words.Hw)
    (λ a fits. record { word = refl; spelt = refl; range = fits })
event_takes version cpus words.Device few = binary_takes (numbers (2 ^ 64) (omega arith)) byte_fields Device
    (IsEvent version cpus words.Device) (λ a b fits bytes. record { word = refl; spelt = refl; range = (fits, bytes) })
event_takes version cpus words.Write few = unary_takes byte_fields Write (IsEvent version cpus words.Write)
    (λ a fits. record { word = refl; spelt = refl; range = fits })
event_takes version cpus words.Add few = binary_takes byte_fields (numbers (2 ^ 31) (omega arith)) Add
    (IsEvent version cpus words.Add) (λ a b bytes fits. record { word = refl; spelt = refl; range = (bytes, fits) })
event_takes version cpus words.Credit few = unary_takes (numbers (2 ^ 31) (omega arith)) Credit
    (IsEvent version cpus words.Credit) (λ a fits. record { word = refl; spelt = refl; range = fits })
event_takes version cpus words.Bits few = plain_takes Bits (IsEvent version cpus words.Bits)
    (record { word = refl; spelt = refl; range = tt })
event_takes version cpus words.Irq few = binary_takes (numbers (2 ^ 64) (omega arith)) (numbers (2 ^ 64) (omega arith))
    Irq (IsEvent version cpus words.Irq) (λ a b fits fits_too.
    record { word = refl; spelt = refl; range = (fits, fits_too) })
event_takes version cpus words.Input few = input_takes version cpus
event_takes version cpus words.Read few = binary_takes (numbers 1048577 (omega arith)) (numbers (2 ^ 32) (omega arith))
    Read (IsEvent version cpus words.Read) (λ a b len flags.
    record { word = refl; spelt = refl; range = (omega arith, flags) })
event_takes version cpus words.Vread few = binary_takes (numbers 1048577 (omega arith))
    (numbers (2 ^ 32) (omega arith)) Vread (IsEvent version cpus words.Vread)
    (λ a b len flags. record { word = refl; spelt = refl; range = (omega arith, flags) })
event_takes version cpus words.Kread few = unary_takes (numbers 1048577 (omega arith)) Kread
    (IsEvent version cpus words.Kread) (λ a fits. record { word = refl; spelt = refl; range = omega arith })
event_takes version cpus words.Dread few = binary_takes (numbers 1048577 (omega arith)) (numbers 2 (omega arith)) Dread
    (IsEvent version cpus words.Dread) (λ a b len flag.
    record { word = refl; spelt = refl; range = (omega arith, flag) })
event_takes version cpus words.Uread few = unary_takes (numbers 1048577 (omega arith)) Uread
    (IsEvent version cpus words.Uread) (λ a fits. record { word = refl; spelt = refl; range = omega arith })
event_takes version cpus words.Int8 few = plain_takes Int8 (IsEvent version cpus words.Int8)
    (record { word = refl; spelt = refl; range = tt })
event_takes version cpus words.Int16 few = plain_takes Int16 (IsEvent version cpus words.Int16)
    (record { word = refl; spelt = refl; range = tt })
event_takes version cpus words.Int32 few = plain_takes Int32 (IsEvent version cpus words.Int32)
    (record { word = refl; spelt = refl; range = tt })
event_takes version cpus words.Int64 few = plain_takes Int64 (IsEvent version cpus words.Int64)
    (record { word = refl; spelt = refl; range = tt })
event_takes version cpus words.Reseed few = plain_takes Reseed (IsEvent version cpus words.Reseed)
    (record { word = refl; spelt = refl; range = tt })
event_takes version cpus words.Tick few = plain_takes Tick (IsEvent version cpus words.Tick)
    (record { word = refl; spelt = refl; range = tt })
event_takes version cpus words.Drop few = plain_takes Drop (IsEvent version cpus words.Drop)
    (record { word = refl; spelt = refl; range = tt })
event_takes version cpus words.Fork few = unary_takes (numbers_in 1 64 (omega arith)) Fork
    (IsEvent version cpus words.Fork) (λ a fits. record { word = refl; spelt = refl; range = fits })
event_takes version cpus words.Inside few = inside_takes version cpus
event_takes version cpus words.Prepare few = later_takes 2 version cpus words.Prepare _
    (λ late. unary_takes (numbers cpus (omega arith)) Prepare (IsEvent version cpus words.Prepare)
    (λ a fits. record { word = refl; spelt = refl; range = (late, fits) }))
event_takes version cpus words.Online few = later_takes 2 version cpus words.Online _
    (λ late. unary_takes (numbers cpus (omega arith)) Online (IsEvent version cpus words.Online)
    (λ a fits. record { word = refl; spelt = refl; range = (late, fits) }))
event_takes version cpus words.Vmfork few = later_takes 2 version cpus words.Vmfork _
    (λ late. binary_takes (numbers (2 ^ 64) (omega arith)) byte_fields Vmfork (IsEvent version cpus words.Vmfork)
    (λ a b fits bytes. record { word = refl; spelt = refl; range = (late, fits, bytes) }))
event_takes version cpus words.State few = later_takes 3 version cpus words.State _
    (λ late. unary_takes (numbers 16 (omega arith)) State (IsEvent version cpus words.State)
    (λ a fits. record { word = refl; spelt = refl; range = (late, fits) }))
event_takes version cpus words.End few = λ fields e is. absurd cc

pub event_again : (version cpus : ℕ) (event : Event) → cpus ≤ 256 → InRange version cpus event
    → event_of version cpus (event_word event) (arguments event) ≡ Ok event
event_again version cpus (At moment) few range = unary_again (numbers (2 ^ 40) (omega arith)) At moment range
event_again version cpus (On cpu) few range = unary_again (numbers cpus (omega arith)) On cpu range
event_again version cpus (Hw bytes) few range = unary_again hardware_fields Hw bytes range
event_again version cpus (Device word text) few range =
    binary_again (numbers (2 ^ 64) (omega arith)) byte_fields Device word text range.0 range.1
event_again version cpus (Write text) few range = unary_again byte_fields Write text range
event_again version cpus (Add text bits) few range =
    binary_again byte_fields (numbers (2 ^ 31) (omega arith)) Add text bits range.0 range.1
event_again version cpus (Credit bits) few range = unary_again (numbers (2 ^ 31) (omega arith)) Credit bits range
event_again version cpus (Irq v1 v2) few range =
    binary_again (numbers (2 ^ 64) (omega arith)) (numbers (2 ^ 64) (omega arith)) Irq v1 v2 range.0 range.1
event_again version cpus (Input word kind code value) few range = input_again word kind code value range
event_again version cpus (Read len flags) few range =
    binary_again (numbers 1048577 (omega arith)) (numbers (2 ^ 32) (omega arith)) Read len flags
    (omega (arith, range.0)) range.1
event_again version cpus (Vread len flags) few range =
    binary_again (numbers 1048577 (omega arith)) (numbers (2 ^ 32) (omega arith)) Vread len flags
    (omega (arith, range.0)) range.1
event_again version cpus (Kread len) few range = unary_again (numbers 1048577 (omega arith)) Kread len (omega arith)
event_again version cpus (Dread len flag) few range =
    binary_again (numbers 1048577 (omega arith)) (numbers 2 (omega arith)) Dread len flag (omega (arith, range.0))
    range.1
event_again version cpus (Uread len) few range = unary_again (numbers 1048577 (omega arith)) Uread len (omega arith)
event_again version cpus (Fork child) few range = unary_again (numbers_in 1 64 (omega arith)) Fork child range
event_again version cpus (Inside point act) few range = inside_again point act range
event_again version cpus (Prepare cpu) few range =
    rw (le-leb 2 version range.0) (unary_again (numbers cpus (omega arith)) Prepare cpu range.1)
event_again version cpus (Online cpu) few range =
    rw (le-leb 2 version range.0) (unary_again (numbers cpus (omega arith)) Online cpu range.1)
event_again version cpus (Vmfork word text) few range =
    rw (le-leb 2 version range.0) (binary_again (numbers (2 ^ 64) (omega arith)) byte_fields Vmfork word text range.1
    range.2)
event_again version cpus (State number) few range =
    rw (le-leb 3 version range.0) (unary_again (numbers 16 (omega arith)) State number range.1)
event_again version cpus _ few range = refl
