use Rattle.std.proofs.Common.{◌≡◌, ℕ, zero, suc, ◌<◌, length, refl, sym, ap, ◌∙◌, subst, rules, arith}
use Rattle.std.specs.Prelude.{◌==◌, if◌then◌else◌}
use Rattle.key_names.specs.declared.events.Event.{Event}
use Rattle.key_names.specs.declared.events.Event.TheVariants.{Kread, Uread, Read, Dread, Write, Device, Add, Vmfork}
use Rattle.key_names.specs.declared.events.Event.TheVariants.{Int8, Int16, Int32, Int64}
use Rattle.key_names.specs.declared.events.Word.TheVariants.{Bits}
use Rattle.key_names.specs.Texts.ScriptGrammar.{InRange, event_word}
use Rattle.key_names.specs.Transcripts.SeenLine.{bytes_or_none, count, no_data}
use Rattle.key_names.proofs.Transcripts.QuietForms.{IsNoInterrupt}
use Rattle.rng_core.specs.Integers.{int_event}
use Rattle.caller_run.specs.Kinds.{IsInteger}
use Rattle.caller_run.specs.Says.{shown_by, most_shown}
use Rattle.caller_run.specs.declared.output.reply.Reply.{Reply}
use Rattle.caller_run.proofs.Events.Callings.{as_credit, asks_nothing, by_answer, by_does, by_shown, no_count}
use Rattle.caller_run.proofs.making.calls.ask.Goals as goal

-- ---- events that read bytes ----

pub returns-in-Read : goal.returns-in-Read
returns-in-Read g c =
    by_shown (c.in-Read.is ∙ ap (λ n. Read n c.in-Read.flags) (sym (c.requires.len ∙ ap most_shown c.in-Read.is))) _
    c.read.ensures.answer (c.read.ensures.shows c.getrandom.new.buf) (no_count _ _ (λ same. cc) c.read.ensures.bytes) tt
    c.getrandom.ensures.does

flag_of : (flag : ℕ) → flag < 2 → (if flag == 1 then 1 else 0) ≡ flag
flag_of zero low = refl
flag_of (suc zero) low = refl
flag_of (suc (suc flag)) low = absurd (omega arith)

pub returns-in-Dread : goal.returns-in-Dread
returns-in-Dread g c =
    let range = subst (InRange c.requires.range.0 c.args.site.now.lanes.now.cpus) c.in-Dread.is c.requires.range.1 in
    by_shown (c.in-Dread.is ∙ ap (λ n. Dread n c.in-Dread.flag) (sym (c.requires.len ∙ ap most_shown c.in-Dread.is))
    ∙ ap (Dread (length c.args.served.now)) (sym (flag_of c.in-Dread.flag range.1))) _ c.read-in-Dread.ensures.answer
    (c.read-in-Dread.ensures.shows c.random_file.new.buf) (no_count _ _ (λ same. cc) c.read-in-Dread.ensures.bytes) tt
    c.random_file.ensures.does

pub returns-in-Kread : goal.returns-in-Kread
returns-in-Kread g c =
    by_shown (c.in-Kread.is ∙ ap Kread (sym (c.requires.len ∙ ap most_shown c.in-Kread.is)))
    (bytes_or_none c.kernel_read.new.buf) (ap (λ (s : Reply). s.answer) c.served.ensures)
    (ap (λ (s : Reply). shown_by c.kernel_read.new.buf s.shows) c.served.ensures) (rw c.served.ensures (λ same. cc)) tt
    c.kernel_read.ensures

pub returns-in-Uread : goal.returns-in-Uread
returns-in-Uread g c =
    by_shown (c.in-Uread.is ∙ ap Uread (sym (c.requires.len ∙ ap most_shown c.in-Uread.is)))
    (bytes_or_none c.urandom_file.new.buf) (ap (λ (s : Reply). s.answer) c.served-in-Uread.ensures)
    (ap (λ (s : Reply). shown_by c.urandom_file.new.buf s.shows) c.served-in-Uread.ensures)
    (rw c.served-in-Uread.ensures (λ same. cc)) tt c.urandom_file.ensures

-- ---- events that read an integer ----

-- if an event reads an integer with `width` bytes, it is the integer event of this width
by_width : (event : Event) (width : ℕ) → IsInteger event → width ≡ most_shown event → event ≡ int_event width
by_width Int8 width is same = ap int_event (sym same)
by_width Int16 width is same = ap int_event (sym same)
by_width Int32 width is same = ap int_event (sym same)
by_width Int64 width is same = ap int_event (sym same)
by_width event width is same = absurd is

no_bits : (event : Event) → IsInteger event → event_word event ≡ Bits → ⊥
no_bits Int8 is same = cc
no_bits Int16 is same = cc
no_bits Int32 is same = cc
no_bits Int64 is same = cc
no_bits event is same = absurd is

no_interrupt : (event : Event) → IsInteger event → IsNoInterrupt event
no_interrupt Int8 is = tt
no_interrupt Int16 is = tt
no_interrupt Int32 is = tt
no_interrupt Int64 is = tt
no_interrupt event is = absurd is

pub returns-in-Int8 : goal.returns-in-Int8
returns-in-Int8 g c =
    let kind : IsInteger c.args.event.now = search rules in
    let is = by_width _ _ kind c.requires.len in
    by_shown is (bytes_or_none c.int.new.out) (ap (λ (s : Reply). s.answer) c.served-in-Int8.ensures)
    (ap (λ (s : Reply). shown_by c.int.new.out s.shows) c.served-in-Int8.ensures)
    (rw c.served-in-Int8.ensures (subst (λ (e : Event). event_word e ≡ Bits → ⊥) is (no_bits _ kind)))
    (subst IsNoInterrupt is (no_interrupt _ kind)) c.int.ensures

-- ---- events that add samples or credit bits, and the query `bits` ----

pub returns-in-Write : goal.returns-in-Write
returns-in-Write g c = by_answer (c.in-Write.is ∙ ap Write (sym c.bytes.ensures)) c.after.ensures tt c.mix.ensures

pub returns-in-Device : goal.returns-in-Device
returns-in-Device g c =
    by_answer (c.in-Device.is ∙ ap (Device c.in-Device.word) (sym c.bytes-in-Device.ensures)) c.after-in-Device.ensures tt
    c.device.ensures.does

pub returns-in-Add : goal.returns-in-Add
returns-in-Add g c =
    by_answer (c.in-Add.is ∙ ap (λ text. Add text c.in-Add.bits) (sym c.bytes-in-Add.ensures)) c.after-in-Add.ensures tt
    c.add.ensures

pub returns-in-Credit : goal.returns-in-Credit
returns-in-Credit g c = by_answer c.in-Credit.is c.after-in-Credit.ensures tt (as_credit c.add-in-Credit.ensures)

pub returns-in-Irq : goal.returns-in-Irq
returns-in-Irq g c =
    by_does c.in-Irq.is no_data (ap (λ (s : Reply). s.answer) c.after-in-Irq.ensures)
    (ap (λ (s : Reply). shown_by c.args.served.now s.shows) c.after-in-Irq.ensures) (rw c.after-in-Irq.ensures tt)
    c.irq.ensures

pub returns-in-Input : goal.returns-in-Input
returns-in-Input g c = by_answer c.in-Input.is c.after-in-Input.ensures tt c.input.ensures

pub returns-in-Bits : goal.returns-in-Bits
returns-in-Bits g c =
    by_shown c.in-Bits.is (count c.bits.result) (ap (λ (s : Reply). s.answer) c.done.ensures)
    (ap (λ (s : Reply). shown_by c.args.served.now s.shows) c.done.ensures) (rw c.done.ensures refl) tt c.bits.ensures

-- ---- events that reseed or tick, and that prepare CPUs or bring them online ----

pub returns-in-Reseed : goal.returns-in-Reseed
returns-in-Reseed g c = by_answer c.in-Reseed.is c.tried.ensures tt c.reseed.ensures.does

pub returns-in-Tick : goal.returns-in-Tick
returns-in-Tick g c = by_answer c.in-Tick.is c.ticked.ensures tt c.tick.ensures

pub returns-in-Vmfork : goal.returns-in-Vmfork
returns-in-Vmfork g c =
    by_answer (c.in-Vmfork.is ∙ ap (Vmfork c.in-Vmfork.word) (sym c.bytes-in-Vmfork.ensures)) c.after-in-Vmfork.ensures tt
    c.vmfork.ensures

pub returns-in-Prepare : goal.returns-in-Prepare
returns-in-Prepare g c = by_answer c.in-Prepare.is c.after-in-Prepare.ensures tt c.prepare.ensures

pub returns-in-Online : goal.returns-in-Online
returns-in-Online g c = by_answer c.in-Online.is c.after-in-Online.ensures tt c.online.ensures

-- ---- events that only set something for later events ----

pub returns-in_default : goal.returns-in_default
returns-in_default g c = asks_nothing c.requires.can (search rules) c.only.ensures
