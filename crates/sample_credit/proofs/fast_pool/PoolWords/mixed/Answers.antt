use Rattle.std.proofs.Common.{ap, ◌∙◌}
use Rattle.std.specs.Prelude.{bit_xor}
use Rattle.key_names.specs.Kernel.FastPool.{FastWords, sip_round, word_mixed}
use Rattle.sample_credit.proofs.fast_pool.PoolWords.mixed.Goals as goal

pub returns : goal.returns
unfolding word_mixed
returns c =
    let first = λ (s : FastWords). record s { s3 = bit_xor s.s3 c.args.word } in
    let last = λ (s : FastWords). record s { s0 = bit_xor s.s0 c.args.word } in
    ap last (c.words.view_is ∙ c.permuted-words.ensures ∙ ap (λ s. sip_round (first s)) c.self.view_is)
