use Rattle.std.proofs.Common.{◌+◌, ◌≤◌, length, ap, ◌∙◌, arith}
use Rattle.judge_vread.specs.Recipe.{bytes_made}
use Rattle.judge_vread.proofs.ServedBytes.{length_made}
use Rattle.judge_vread.proofs.served.Served.len.Goals as goal

pub returns-clause-bytes : goal.returns-clause-bytes
returns-clause-bytes c =
    let s = c.self.inside in
    let within : s.front_len ≤ length s.front = omega (arith, c.self.invariant.0, c.self.told.0) in
    ap (λ n. n + s.len) c.from.ensures ∙ length_made s.front s.key s.front_len s.from s.len within
    ∙ ap (λ r. length (bytes_made r)) c.self.view_is
