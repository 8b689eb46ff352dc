-- Each act (a wipe, a read or a reseed) that runs at a site (a call's table, pass, trace and setting) has the effect
-- `DoesAct`. A read and a reseed make one call of the core each, and a wipe makes none.
use Rattle.std.proofs.Common.{◌≡◌, ℕ, ◌+◌, Ok, List, length, refl, arith}
use Rattle.std.specs.Prelude.{Result}
use Rattle.key_names.specs.declared.errno.Errno.{Errno}
use Rattle.key_names.specs.declared.events.Event.TheVariants.{Read, Reseed as ReseedEvent}
use Rattle.key_names.specs.declared.events.InsideAct.{InsideAct}
use Rattle.key_names.specs.declared.events.InsideAct.TheVariants.{Wipe, Vread, Reseed}
use Rattle.key_names.specs.Callers.Meaning.{ActMeans}
use Rattle.key_names.specs.Transcripts.SeenLine.{bytes_or_none, no_data}
use Rattle.rng_core.specs.declared.site.Site.{Site}
use Rattle.rng_core.specs.Acts.{done_line}
use Rattle.rng_core.specs.Makes.{setting_of, result_answer, given}
use Rattle.rng_core.specs.Sites.{IsNew, Does, Completes, at, most_steps}
use Rattle.rng_core.specs.SiteWaits.{waiting_at}
use Rattle.rng_core.proofs.ActLines.{wipe_done, read_done, reseed_done}

-- from site `m` to site `n` the act `act` ran, in at most `most_steps` steps; its result is `result`, and its bytes are
-- `out`
abbrev pub DoesAct : InsideAct → Result (Unit {0}) Errno → List ℕ → Site → Site → Type 0
DoesAct act result out m n = Does most_steps (λ effects. ActMeans (setting_of m.set) act (done_line effects result out)) m n

pub does_wipe : (m : Site) (out : List ℕ) → IsNew m → length out ≡ 0 → DoesAct Wipe (Ok tt) out m m
does_wipe m out new none = record {
  same = record { lanes = refl; set = refl; pass = refl; trace = refl };
  has = new.has;
  room = omega arith;
  did = wipe_done m.set (at m) out (let a = new.has.pass.sized in let b = m.lanes.now.few in omega arith) none;
}

pub does_read : (n len : ℕ) (result : Result (Unit {0}) Errno) (out : List ℕ) (l m : Site) → len ≡ n →
    Completes (4 + waiting_at l) (Read len 0) (result_answer result) (bytes_or_none (given result out)) l m →
    DoesAct (Vread n) result out l m
does_read n len result out l m same k = record {
  same = k.same;
  has = k.has;
  room = (let r = k.room in omega arith);
  did = read_done l.set n len result out (at l) (at m) same k.did;
}

pub does_reseed : (result : Result (Unit {0}) Errno) (out : List ℕ) (l m : Site) → length out ≡ 0 →
    Completes 3 ReseedEvent (result_answer result) no_data l m → DoesAct Reseed result out l m
does_reseed result out l m none k = record {
  same = k.same;
  has = k.has;
  room = (let r = k.room in omega arith);
  did = reseed_done l.set result out (at l) (at m) none k.did;
}
