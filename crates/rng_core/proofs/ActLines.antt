-- If a read, a reseed or a wipe ran as an act, its effects have the meaning of the act's line (`ActMeans`).
use Rattle.std.proofs.Common.{◌≡◌, ℕ, ◌<◌, Ok, Err, List, [], length, refl, ap, ◌∙◌, subst}
use Rattle.std.specs.Prelude.{Result}
use Rattle.key_names.specs.declared.errno.Errno.{Errno}
use Rattle.key_names.specs.declared.events.Event.TheVariants.{Read, Reseed as ReseedEvent}
use Rattle.key_names.specs.declared.events.InsideAct.TheVariants.{Wipe, Vread, Reseed}
use Rattle.key_names.specs.Callers.Meaning.{ActMeans}
use Rattle.key_names.specs.Transcripts.SeenLine.{bytes_or_none, no_data}
use Rattle.rng_core.specs.declared.setting.Setting.{Setting}
use Rattle.rng_core.specs.Traces.{Moment}
use Rattle.rng_core.specs.Makes.{Makes, IsOutcomeOf, setting_of, result_answer, given}
use Rattle.rng_core.specs.Acts.{done_line}
use Rattle.rng_core.proofs.Makings.{did_map, did_nothing}
use Rattle.rng_core.proofs.Hosting.{none_left}

-- if `out` is empty, the line of the act shows no data
no_bytes : (result : Result (Unit {0}) Errno) (out : List ℕ) → length out ≡ 0 →
    bytes_or_none (given result out) ≡ no_data
no_bytes (Ok x) out none = ap bytes_or_none (none_left out none)
no_bytes (Err errno) out none = refl

pub wipe_done : (set : Setting) (m : Moment) (out : List ℕ) → 1 < length m.view.lanes → length out ≡ 0 →
    Makes (λ effects. ActMeans (setting_of set) Wipe (done_line effects (Ok tt) out)) set m m
wipe_done set m out two none = did_nothing set m two
    (λ i. record { effects = []; answer = result_answer {T = Unit {0}} (Ok tt); shown = no_bytes (Ok tt) out none i })

pub read_done : (set : Setting) (n len : ℕ) (result : Result (Unit {0}) Errno) (out : List ℕ) (l m : Moment) → len ≡ n →
    Makes (IsOutcomeOf (setting_of set) (Read len 0) (result_answer result) (bytes_or_none (given result out))) set l
    m →
    Makes (λ effects. ActMeans (setting_of set) (Vread n) (done_line effects result out)) set l m
read_done set n len result out l m same k = did_map set l m (λ effects h. (h.form, h.answers, h.shows))
    (subst (λ (z : ℕ). Makes (IsOutcomeOf (setting_of set) (Read z 0) (result_answer result)
    (bytes_or_none (given result out))) set l m) same k)

pub reseed_done : (set : Setting) (result : Result (Unit {0}) Errno) (out : List ℕ) (l m : Moment) → length out ≡ 0 →
    Makes (IsOutcomeOf (setting_of set) ReseedEvent (result_answer result) no_data) set l m →
    Makes (λ effects. ActMeans (setting_of set) Reseed (done_line effects result out)) set l m
reseed_done set result out l m none k = did_map set l m
    (λ effects h. (h.form, h.answers, no_bytes result out none ∙ h.shows)) k
