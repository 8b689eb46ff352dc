-- After a vread and the acts that waited for it, the caller can go on, and has made one more call.
use Rattle.std.proofs.Common.{◌≡◌, ℕ, ◌+◌, ◌*◌, ◌≤◌, List, [], ◌∷◌, ◌++◌, length, refl, sym, ap, ◌∙◌, subst, arith, length-append}
use Rattle.key_names.specs.declared.events.Event.{Event}
use Rattle.key_names.specs.declared.events.Event.TheVariants.{Vread}
use Rattle.key_names.specs.declared.events.Word.TheVariants.{Vread as VreadWord}
use Rattle.key_names.specs.declared.names.Step.{Step}
use Rattle.key_names.specs.Callers.Calls.{vread_call, BoundAct}
use Rattle.key_names.specs.Transcripts.SeenLine.{SeenLine}
use Rattle.lane_table.specs.declared.lanes.Lanes.{Lanes}
use Rattle.key_names.specs.Callers.Meaning.{CallerState}
use Rattle.lane_table.specs.Calls.{view}
use Rattle.rng_core.specs.declared.setting.Setting.{Setting}
use Rattle.rng_core.specs.declared.vdso.acts.Bound.{Bound}
use Rattle.transcript_text.specs.Gathered.{Gathered}
use Rattle.rng_core.specs.Acts.{Ask, ActOutcome, all_wanted, asks_of}
use Rattle.rng_core.specs.InsideMakes.{bound_acts}
use Rattle.caller_run.specs.declared.making.caller.Caller.{Caller}
use Rattle.caller_run.specs.declared.output.reply.Reply.{Reply}
use Rattle.caller_run.specs.Calling.{conform, StateRead}
use Rattle.caller_run.specs.Done.{CallDone}
use Rattle.caller_run.specs.Says.{line_of}
use Rattle.caller_run.specs.Waiting.{emitted_anew, act_lines, all_bound, CallsSoFar}
use Rattle.caller_run.specs.Standing.{CanAdvanceWith, Start, HasAdvanced}
use Rattle.caller_run.proofs.Orders.LoopCalls.{so_far_vread}
use Rattle.caller_run.proofs.Law.Seeing.{read_kept}
use Rattle.caller_run.proofs.Planning.LogFills.{Fills, fills_read}
use Rattle.caller_run.proofs.Events.CanAdvance.{GoesOn, can_next}
use Rattle.caller_run.proofs.Orders.EmittedAnew.{anew_long, fit_anew, lines_long, bound_same}
use Rattle.caller_run.proofs.Forks.HasAdvanced.{gone_by, fit_more, own_line}

-- for `event` a caller read out of its current vgetrandom state, with its waiting acts inside. The caller is c before
-- the read, d after it, and e when it goes on. `before` and `after` are the caller's lines, `acts` and `left` its
-- waiting acts
pub record HasRead (t : Lanes) (event : Event) (c d e : Caller) (before after : Gathered)
    (acts left : List Bound) : Type 0 where
  pub len : ℕ
  pub flags : ℕ
  pub event_is : event ≡ Vread len flags
  pub said : Reply
  pub served : List ℕ
  pub steps : List Step
  pub zs : List ActOutcome
  pub read : StateRead t len flags c d said served steps (asks_of acts) zs
  pub on : GoesOn event d e
  pub lines : after.lines
      ≡ emitted_anew before.lines (asks_of acts) (act_lines d.set (asks_of acts) zs)
      ++ line_of d.set VreadWord served said steps ∷ []
  pub line_room : after.line_room + 1 ≡ before.line_room
  pub step_room : before.step_room ≤ after.step_room + 20 * (length acts + 1)
  pub byte_room : before.byte_room ≤ after.byte_room + (len + all_wanted (asks_of acts))
  pub none : left ≡ []

module _ {t : Lanes} {event : Event} {c d e : Caller} {before after : Gathered} {acts left : List Bound}
    (k : HasRead t event c d e before after acts left) where
  abbrev asks : List Ask
  asks = asks_of acts

  abbrev line : SeenLine
  line = line_of d.set VreadWord k.served k.said k.steps

  abbrev recorded : List SeenLine
  recorded = act_lines d.set asks k.zs

  pub can_read : {m inside : ℕ} {rest : List Event} → CanAdvanceWith t c before acts m inside (event ∷ rest) →
      CanAdvanceWith t e after left m inside rest
  can_read g =
      let kept = read_kept k.read in
      let long = ap length k.lines ∙ length-append (emitted_anew before.lines asks recorded) (line ∷ []) in
      let anew = anew_long before.lines asks recorded in
      can_next d kept.set kept.has (kept.states g.states) k.on
      (subst (λ (x : Event). Fills x before after acts left) (sym k.event_is)
      (fills_read (omega arith) k.line_room k.step_room k.byte_room k.none)) g

  pub gone_read : (begun : Start) (events rest : List Event) (kids : List Start) →
      HasAdvanced begun events (event ∷ rest) c before.lines asks kids →
      HasAdvanced begun events rest e after.lines (asks_of left) kids
  gone_read begun events rest kids gone =
      let set = k.read.set in
      let bound : bound_acts c.set asks k.zs ≡ all_bound asks recorded =
      sym (ap (λ (s : Setting). all_bound asks (act_lines s asks k.zs)) set ∙ bound_same c.set asks k.zs) in
      let g : HasAdvanced begun events (Vread k.len k.flags ∷ rest) c before.lines asks kids =
      subst (λ (x : Event). HasAdvanced begun events (x ∷ rest) c before.lines asks kids) k.event_is gone in
      let on : GoesOn (Vread k.len k.flags) d e = subst (λ (x : Event). GoesOn x d e) k.event_is k.on in
      subst (λ (ls : List SeenLine). HasAdvanced begun events rest e ls (asks_of left) kids) (sym k.lines)
      (subst (λ (bs : List Bound). HasAdvanced begun events rest e (emitted_anew before.lines asks recorded ++ line ∷ [])
      (asks_of bs) kids) (sym k.none)
      (gone_by d g set on (vread_call k.len k.flags line (all_bound asks recorded))
      (emitted_anew before.lines asks recorded ++ line ∷ []) [] []
      (subst (λ (s : Setting). CallDone c.set.caller (view c.pass) (view d.pass) (conform c) (conform d)
      (vread_call k.len k.flags (line_of s VreadWord k.served k.said k.steps) (all_bound asks recorded))) (sym set)
      (subst (λ (bs : List BoundAct). CallDone c.set.caller (view c.pass) (view d.pass) (conform c) (conform d)
      (vread_call k.len k.flags (line_of c.set VreadWord k.served k.said k.steps) bs)) bound k.read.done)) (ap (λ (s : CallerState). s.setting) k.read.conforms)
      (λ has. refl)
      (so_far_vread events rest before.lines asks g.calls k.len k.flags line recorded
      (lines_long d.set asks k.zs k.read.long)
      (subst (λ (w : List Ask). CallsSoFar events (Vread k.len k.flags ∷ rest) before.lines w g.calls) (g.waits refl)
      g.so_far))
      (fit_more begun.caller c.set.event events (Vread k.len k.flags) rest (emitted_anew before.lines asks recorded) line
      (own_line d g set k.said k.served k.steps)
      (λ more f. fit_anew begun.caller d.set (ap (λ (s : Setting). s.caller) set ∙ g.own) events asks k.zs before.lines more
      g.idle
      (g.fit more f)))
      tt))
