-- If the input is a script and a transcript, an output that is right for these two is right for the input. If the input
-- is not such a pair, the refusal that names the reason is right for the input.
use Rattle.std.proofs.Common.{◌≡◌, ℕ, List, refl, sym, subst, ◌∙◌, inl, inr}
use Rattle.std.specs.Prelude.{Option, Some, None, true, Result, Ok, Err, IfOk}
use Rattle.std.specs.Option.{is_some}
use Rattle.std.specs.Global.{Vec}
use Rattle.key_names.specs.Lanes.Book.{Book, Lists}
use Rattle.key_names.specs.Callers.Calls.{Call}
use Rattle.key_names.specs.Callers.Meaning.{CallMeaning}
use Rattle.key_names.specs.Transcripts.SeenLine.{SeenLine}
use Rattle.key_names.specs.Texts.ScriptGrammar.{Script}
use Rattle.audit_keys.specs.HeldUnused.{HoldsUnused}
use Rattle.tool_ends.specs.Pairs.{IsNoPair, IsPair, RefusalOf}
use Rattle.tool_ends.specs.declared.pair.NotRead.{NotRead}
use Rattle.tool_ends.specs.declared.pair.NotRead.TheVariants.{ReadFault as SourceFails, Refused as FirstFault, NoTranscript, TooManyLines, NoMemory as Unread}
use Rattle.tool_ends.specs.declared.status.Status.{Status}
use Rattle.tool_ends.specs.declared.status.Status.TheVariants.{Done, No, Usage, ReadFault, WriteFault, Refused, NoMemory}
use Rattle.tool_ends.proofs.Inputs.{IsLimited}
use Rattle.tool_ends.proofs.Pairs.{too_long}
use Rattle.key_audit.specs.declared.ask.Ask.{Ask}
use Rattle.audit_keys.specs.declared.line_ends.LineEnd.{LineEnd}
use Rattle.audit_keys.specs.declared.moments.LineOf.{LineOf}
use Rattle.key_audit.specs.Asked.{line_end}
use Rattle.key_audit.specs.Live.{lists_after}
use Rattle.key_audit.specs.Outcome.{Calls, TellsAfter, TellsHeld, TellsLive, ListedOf}

-- if the input spells `script` and `t`, an output that is right for these two is right for the input
pub of_pair : (ask : Ask) (input : List ℕ) (script : Script) (t : List (List SeenLine)) → IsPair input script t →
    (s : Status) (o : List ℕ) → ListedOf ask script t s o → Calls ask input s o
of_pair ask input script t pair Done o listed = record { script = script; t = t; pair = pair; listed = listed }
of_pair ask input script t pair No o listed = inl (record { script = script; t = t; pair = pair; listed = listed })
of_pair ask input script t pair Refused o listed = absurd listed
of_pair ask input script t pair Usage o listed = absurd listed
of_pair ask input script t pair ReadFault o listed = absurd listed
of_pair ask input script t pair WriteFault o listed = absurd listed
of_pair ask input script t pair NoMemory o listed = absurd listed

-- if the input is not a script and a transcript, the refusal that names the reason `why` is a right output for it
pub of_none : (ask : Ask) (input : List ℕ) (why : NotRead) → IsNoPair input why → (s : Status) (o : List ℕ) →
    RefusalOf why s o → Calls ask input s o
of_none ask input SourceFails is s o said = absurd is
of_none ask input (FirstFault fault) is s o said =
    subst (λ status. Calls ask input status o) (sym said.0) (record { fault = fault; first = is; line = said.1 })
of_none ask input NoTranscript is s o said =
    subst (λ status. Calls ask input status o) (sym said.0) (inr (record { number = 1; fails = is; line = said.1 }))
of_none ask input TooManyLines is s o said =
    subst (λ status. Calls ask input status o) (sym said.0) (inr (record { number = 2; fails = is.0; line = said.1 }))
of_none ask input Unread is s o said = absurd said

pub is_limited : (ask : Ask) → IsLimited 100663296 (Calls ask)
is_limited ask = record {
  done = λ input output of. of.pair.short;
  no = λ input output of. elim of [ inl pair ↦ pair.pair.short | inr text ↦ text.fails.short ];
  refused = λ input all output long too of. record {
    fault = of.fault;
    first = too_long all too ∙ sym (too_long input long) ∙ of.first;
    line = of.line;
  };
}

-- if no held key or rest was used in `lists`, an output as in `TellsHeld` is also as in `TellsLive`
pub live_listed : {E : Type 0} (lists : Lists) (callers : List (List Call)) (book : Book) (ms : List (List CallMeaning))
    (r : Result (Vec ℕ) E) → HoldsUnused lists → IfOk r (λ text. TellsHeld lists callers book ms text.items) →
    IfOk r (λ text. TellsLive lists callers book ms text.items)
live_listed lists callers book ms (Ok text) unused listed = record { listed = listed; unused = unused }
live_listed lists callers book ms (Err e) unused listed = tt

-- if no held key or rest was used in the lists after `line`, an output as in `TellsHeld` for these lists is also as in
-- `TellsAfter`
pub after_listed : {E : Type 0} (line : LineOf) (end : LineEnd) (callers : List (List Call)) (book : Book)
    (ms : List (List CallMeaning)) (r : Result (Vec ℕ) E) → line_end callers line ≡ Some end →
    HoldsUnused (lists_after line end callers book ms) →
    IfOk r (λ text. TellsHeld (lists_after line end callers book ms) callers book ms text.items) →
    IfOk r (λ text. TellsAfter line callers book ms text.items)
after_listed line end callers book ms (Ok text) is unused listed =
    record { end = end; is = is; live = record { listed = listed; unused = unused } }
after_listed line end callers book ms (Err e) is unused listed = tt

-- if `is_some o` is true, `o` contains a `LineEnd`
pub found_end : (o : Option LineEnd) → is_some o ≡ true → (end : LineEnd) × (o ≡ Some end)
found_end None there = absurd cc
found_end (Some end) there = (end, refl)
