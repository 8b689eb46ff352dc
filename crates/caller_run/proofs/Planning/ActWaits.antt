-- A caller can go on after an act, which it keeps for its next vread.
use Rattle.std.proofs.Common.{◌≡◌, ℕ, suc, Bool, true, false, Some, ◌+◌, ◌≤◌, List, [], ◌∷◌, ◌++◌, length, refl, sym, ap, ◌∙◌, subst}
use Rattle.std.specs.Prelude.{slice_get}
use Rattle.std.specs.List.{AllByRecursion}
use Rattle.std.proofs.lemmas.List.{map-append}
use Rattle.key_names.specs.declared.events.Answer.TheVariants.{Unused}
use Rattle.key_names.specs.declared.events.Event.{Event}
use Rattle.key_names.specs.declared.events.Event.TheVariants.{Inside}
use Rattle.key_names.specs.declared.events.InsideAct.{InsideAct}
use Rattle.key_names.specs.declared.events.Word.TheVariants.{Inside as InsideWord}
use Rattle.key_names.specs.Callers.Calls.{unbound, has_vread}
use Rattle.key_names.specs.Transcripts.IsTranscript.{LineIs, LinesFit}
use Rattle.key_names.specs.Texts.ScriptGrammar.{InRange}
use Rattle.key_names.specs.Transcripts.SeenLine.{SeenLine, no_data}
use Rattle.caller_run.proofs.Planning.LogFills.{Fills, fills_act, new_bound}
use Rattle.caller_run.proofs.Forks.HasAdvanced.{gone_on}
use Rattle.caller_run.proofs.Events.CanAdvance.{can_next}
use Rattle.key_names.proofs.Lists.Each.{each_more}
use Rattle.lane_table.specs.declared.lanes.Lanes.{Lanes}
use Rattle.lane_table.specs.Calls.{view}
use Rattle.rng_core.specs.declared.vdso.acts.Bound.{Bound}
use Rattle.transcript_text.specs.Gathered.{Gathered}
use Rattle.rng_core.specs.Acts.{Ask, asks_of, ask_of}
use Rattle.caller_run.specs.declared.making.caller.Caller.{Caller}
use Rattle.caller_run.specs.Calling.{conform}
use Rattle.caller_run.specs.Waiting.{bound_by}
use Rattle.caller_run.specs.Standing.{CanAdvanceWith, HasLine, Start, HasAdvanced}
use Rattle.caller_run.proofs.Events.AloneDone.{unbound_done}
use Rattle.caller_run.proofs.Orders.LoopCalls.{so_far_idle, so_far_waits}
use Rattle.key_names.specs.declared.point.Point.{Point}
use Rattle.caller_run.proofs.Events.CanAdvance.{GoesOn}
use Rattle.caller_run.proofs.Orders.EmittedAnew.{idle_more}
use Rattle.caller_run.proofs.Forks.HasAdvanced.{gone_by, fit_more}

-- the line that caller c makes for an act, which shows the act as not done
abbrev pub idle_line : Caller → SeenLine
idle_line c = record {
  caller = c.set.caller;
  event = c.set.event;
  word = InsideWord;
  answer = Unused;
  steps = [];
  shown = no_data;
}

-- at this event the caller `c` keeps an act for its next vread; `e` is the caller when it goes on. `before` and `after`
-- are the caller's lines; the last line of `after` shows the act as not done. `acts` are the acts that wait before the
-- event, and `left` the acts that wait after it
pub record Keeps (event : Event) (c e : Caller) (before after : Gathered) (acts left : List Bound) : Type 0 where
  pub point : Point
  pub act : InsideAct
  pub event_is : event ≡ Inside point act
  pub on : GoesOn event c e
  pub lines : after.lines ≡ before.lines ++ idle_line c ∷ []
  pub line_room : after.line_room + 1 ≡ before.line_room
  pub step_room : before.step_room ≤ after.step_room
  pub byte_room : before.byte_room ≤ after.byte_room
  pub kept : left ≡ acts ++ new_bound point act c.set.event ∷ []

get_seam : (lines : List SeenLine) (line : SeenLine) → slice_get (lines ++ line ∷ []) (length lines) ≡ Some line
get_seam [] line = refl
get_seam (l ∷ lines) line = get_seam lines line

module _ {event : Event} {c e : Caller} {before after : Gathered} {acts left : List Bound}
    (k : Keeps event c e before after acts left) where
  abbrev line : SeenLine
  line = idle_line c

  abbrev asks : List Ask
  asks = asks_of acts

  abbrev x : Ask
  x = ask_of (new_bound k.point k.act c.set.event)

  pub can_keep : {t : Lanes} {m inside : ℕ} {rest : List Event} →
      CanAdvanceWith t c before acts m inside (event ∷ rest) → CanAdvanceWith t e after left m inside rest
  can_keep {t = t} g =
      let range = subst (InRange g.range.0 t.cpus) k.event_is g.range.1.0 in
      can_next c refl g.ready.has g.states k.on
      (subst (λ (y : Event). Fills y before after acts left) (sym k.event_is)
      (subst (Fills (Inside k.point k.act) before after acts) (sym k.kept)
      (fills_act before after line k.lines k.line_room k.point k.act c.set.event acts k.step_room k.byte_room range g.at
      g.fresh g.recorded))) g

  module _ (at : c.set.event ≡ length before.lines) (begun : Start) (events rest : List Event) (kids : List Start)
      (g : HasAdvanced begun events (Inside k.point k.act ∷ rest) c before.lines asks kids)
      (on : GoesOn (Inside k.point k.act) c e) where
    line_is : LineIs begun.caller c.set.event InsideWord line
    line_is = record { caller = g.own; event = refl; word_is = refl }

    idle : AllByRecursion (HasLine begun.caller (before.lines ++ line ∷ [])) (asks ++ x ∷ [])
    idle = each_more (HasLine begun.caller (before.lines ++ line ∷ [])) asks x
        (idle_more begun.caller before.lines line asks g.idle) (record {
          line = line;
          there = ap (slice_get (before.lines ++ line ∷ [])) at ∙ get_seam before.lines line;
          is = line_is;
        })

    fit : (more : List SeenLine) → LinesFit begun.caller (suc c.set.event) rest more →
        LinesFit begun.caller 0 events ((before.lines ++ line ∷ []) ++ more)
    fit = fit_more begun.caller c.set.event events (Inside k.point k.act) rest before.lines line line_is g.fit

    -- if no vread follows, the act is a call by itself, and `HasAdvanced` holds again
    gone_idle : has_vread rest ≡ false →
        HasAdvanced begun events rest e (before.lines ++ line ∷ []) (asks ++ x ∷ []) kids
    gone_idle none =
        gone_by c g refl on (unbound (bound_by x line)) (before.lines ++ line ∷ []) (asks ++ x ∷ []) g.waiting
        (unbound_done c.set.caller (view c.pass) (conform c) (bound_by x line) refl refl refl) refl
        (λ has. let b : false ≡ true = sym none ∙ has in absurd (cc b))
        (so_far_idle events rest before.lines g.waiting g.calls x line none g.so_far) fit idle

    gone_waits : has_vread rest ≡ true →
        HasAdvanced begun events rest e (before.lines ++ line ∷ []) (asks ++ x ∷ []) kids
    gone_waits has =
        gone_on c g refl on g.calls (before.lines ++ line ∷ []) (asks ++ x ∷ []) (g.waiting ++ x ∷ []) kids g.done
        g.settings g.forked
        (λ _. ap (λ (w : List Ask). w ++ x ∷ []) (g.waits has))
        (so_far_waits events rest before.lines g.waiting g.calls x line has at g.so_far) fit idle

    gone_either : (b : Bool) → has_vread rest ≡ b →
        HasAdvanced begun events rest e (before.lines ++ line ∷ []) (asks ++ x ∷ []) kids
    gone_either true has = gone_waits has
    gone_either false none = gone_idle none

  pub gone_keep : c.set.event ≡ length before.lines → (begun : Start) (events rest : List Event)
      (kids : List Start) → HasAdvanced begun events (event ∷ rest) c before.lines asks kids →
      HasAdvanced begun events rest e after.lines (asks_of left) kids
  gone_keep at begun events rest kids g =
      subst (λ (ls : List SeenLine). HasAdvanced begun events rest e ls (asks_of left) kids) (sym k.lines)
      (subst (λ (l : List Ask). HasAdvanced begun events rest e (before.lines ++ line ∷ []) l kids)
      (sym (ap asks_of k.kept ∙ map-append ask_of acts (new_bound k.point k.act c.set.event ∷ [])))
      (gone_either at begun events rest kids (subst (λ (y : Event). HasAdvanced begun events (y ∷ rest) c before.lines
      asks kids) k.event_is g)
      (subst (λ (y : Event). GoesOn y c e) k.event_is k.on) (has_vread rest) refl))
