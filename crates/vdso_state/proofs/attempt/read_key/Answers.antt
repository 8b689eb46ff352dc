use Rattle.std.proofs.Common.{◌≡◌, ℕ, length, subst, arith}
use Rattle.vdso_state.proofs.Stepping.{key_not_read}
use Rattle.vdso_state.proofs.attempt.read_key.Goals as goal

pub returns-in-Err-clause-reads : goal.returns-in-Err-clause-reads
returns-in-Err-clause-reads g c =
    let answers = c.in-Err.ensures.answers in
    let bytes : length c.st.inside.key ≡ 32 = omega (arith, c.st.told) in (
      answers.0,
      rw (← c.st.view_is) (key_not_read answers.0 c.in-Err.errno c.getrandom.new.buf _ answers.1),
      subst (λ (k : ℕ). g.H.VHost.answers c.args.host.now k 0 answers.0 c.getrandom.new.self) bytes answers.2,
    )
