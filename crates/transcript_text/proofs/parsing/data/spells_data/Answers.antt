use Rattle.std.proofs.Common.{Bool, subst, sym}
use Rattle.std.specs.Prelude.{MatchBool}
use Rattle.std.proofs.lemmas.Bool.{both_ways}
use Rattle.transcript_text.specs.Shows.{SpellsData, SpellsNoData}
use Rattle.transcript_text.proofs.ShownTexts.{spells_found, spells_dash, spells_count}
use Rattle.transcript_text.proofs.parsing.data.spells_data.Goals as goal

pub returns-then-not-is_bits : goal.returns-then-not-is_bits
returns-then-not-is_bits c =
    spells_found c.args.word c.args.text.now c.spells_bytes.result
    (λ e. both_ways _ c.if-not-is_bits.true (c.is_bits.ensures.1 e)) c.spells_bytes.ensures

pub returns-then-is_dash : goal.returns-then-is_dash
returns-then-is_dash c = spells_dash c.args.word c.args.text.now (c.is_dash.ensures.0 c.if-is_dash.true)

pub returns : goal.returns
returns c =
    subst (λ (b : Bool). MatchBool b (SpellsData c.args.word c.args.text.now) (SpellsNoData c.args.word c.args.text.now))
    (sym c.is_some.ensures)
    (spells_count c.args.word c.args.text.now c.number_u32.result (c.is_bits.ensures.0 c.if-not-is_bits.false)
    (λ e. both_ways _ c.if-is_dash.false (c.is_dash.ensures.1 e)) c.number_u32.ensures)
