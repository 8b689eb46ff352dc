use Rattle.std.proofs.Common.{length, ap, rules, subst, arith}
use Rattle.std.proofs.lemmas.List.{length-map}
use Rattle.key_names.specs.Transcripts.SeenLine.{seen_line}
use Rattle.key_names.specs.Texts.TranscriptGrammar.{LineFits}
use Rattle.transcript_text.specs.Gathered.{Gathered}
use Rattle.transcript_text.proofs.Keeping.{line_fits}
use Rattle.transcript_text.proofs.caller_lines.CallerLines.line.Goals as goal

pub returns-clause-fits : goal.returns-clause-fits
returns-clause-fits c =
    let line = seen_line c.self.inside.bytes.items c.self.inside.steps.items in
    let seen_is = ap (λ (g : Gathered). length g.lines) c.self.view_is in
    let fits = line_fits c.self.inside.bytes.items c.self.inside.steps.items c.self.inside.lines.items c.args.number
    c.index-line.result.now c.self.invariant (omega (arith, length-map c.self.inside.lines.items line, c.requires))
    c.index-line.ensures in
    subst LineFits {x = line c.index-line.result.now} (search rules) fits
