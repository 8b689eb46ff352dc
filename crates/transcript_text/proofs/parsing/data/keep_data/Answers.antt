use Rattle.std.proofs.Common.{[], refl}
use Rattle.std.proofs.lemmas.Bool.{both_ways}
use Rattle.transcript_text.proofs.ShownTexts.{reads_kept, within_kept, reads_count, reads_dash, reads_no_count}
use Rattle.transcript_text.proofs.parsing.data.keep_data.Goals as goal

pub returns-then-not-is_bits-clause-data : goal.returns-then-not-is_bits-clause-data
returns-then-not-is_bits-clause-data c =
    reads_kept c.args.word c.args.text.now c.args.kept.now.items c.keep_bytes.new.kept.items c.keep_bytes.result
    (λ e. both_ways _ c.if-not-is_bits.true (c.is_bits.ensures.1 e)) c.keep_bytes.ensures.data

pub returns-then-not-is_bits-clause-within : goal.returns-then-not-is_bits-clause-within
returns-then-not-is_bits-clause-within c =
    within_kept c.args.text.now c.args.kept.now.items c.keep_bytes.new.kept.items c.keep_bytes.result
    c.keep_bytes.ensures.data

pub returns-then-is_dash-clause-data : goal.returns-then-is_dash-clause-data
returns-then-is_dash-clause-data c =
    reads_dash c.args.word c.args.text.now [] refl (c.is_dash.ensures.0 c.if-is_dash.true)

pub returns-in-Some-clause-data : goal.returns-in-Some-clause-data
returns-in-Some-clause-data c =
    reads_count c.args.word c.args.text.now c.in-Some.number (c.is_bits.ensures.0 c.if-not-is_bits.false)
    c.in-Some.ensures.0 c.in-Some.ensures.1

pub returns-in-None-clause-data : goal.returns-in-None-clause-data
returns-in-None-clause-data c =
    reads_no_count c.args.word c.args.text.now (c.is_bits.ensures.0 c.if-not-is_bits.false)
    (λ e. both_ways _ c.if-is_dash.false (c.is_dash.ensures.1 e)) c.in-None.ensures
