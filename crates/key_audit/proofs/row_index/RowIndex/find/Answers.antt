use Rattle.std.proofs.Common.{sym, ◌∙◌}
use Rattle.key_audit.proofs.Index.{found, none}
use Rattle.key_audit.proofs.row_index.RowIndex.find.Goals as goal

pub returns-clause-found : goal.returns-clause-found
returns-clause-found c =
    found c.args.self.now.rows.now c.args.self.now.by_name c.args.self.now.indexed c.args.key c.copied.result
    (c.copied.ensures ∙ c.get.ensures.value)

pub returns-clause-none : goal.returns-clause-none
returns-clause-none c empty =
    none c.args.self.now.rows.now c.args.self.now.by_name c.args.self.now.indexed c.args.key
    (sym (c.copied.ensures ∙ c.get.ensures.value) ∙ empty)
