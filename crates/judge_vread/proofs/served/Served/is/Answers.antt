use Rattle.std.proofs.Common.{◌≡◌, ◌+◌, ◌++◌, List, ℕ, IsTrue, length, take, sym, ap, ◌∙◌, rules, arith}
use Rattle.std.proofs.lemmas.List.{length-append}
use Rattle.key_names.specs.Kernel.Keystream.{keystream}
use Rattle.key_names.proofs.Standards.Keystreams.{length-keystream}
use Rattle.judge_vread.specs.Recipe.{bytes_made}
use Rattle.judge_vread.proofs.ServedBytes.{other_part, both_parts}
use Rattle.judge_vread.proofs.served.Served.is.Goals as goal

pub is_key-requires : goal.is_key-requires
is_key-requires c = omega (arith, c.len.ensures.short, c.split_at.ensures.back_len, c.self.invariant.1, c.if-bytes-len.false)

pub returns-then-are_same : goal.returns-then-are_same
returns-then-are_same c =
    let s = c.self.inside in
    let bytes = c.args.bytes.now in
    let rest = c.split_at.result.1.now in
    let front : List ℕ = take c.from.result s.front in
    let made : List ℕ = keystream s.key s.from s.len in
    let made_is : front ++ made ≡ bytes_made c.args.self.now =
    ap (λ k. take k s.front ++ made) c.from.ensures ∙ ap bytes_made c.self.view_is in
    let all : length bytes ≡ length front + s.len =
    c.if-bytes-len.false ∙ c.len.ensures.bytes ∙ ap length (sym made_is) ∙ length-append front made
    ∙ ap (λ n. length front + n) (length-keystream s.key s.from s.len) in
    let long : length rest ≡ s.len = omega (arith, c.split_at.ensures.back_len, all) in
    let same : IsTrue c.are_same.result = search rules in (
      λ t. both_parts bytes front made c.split_at.result.0.now rest c.split_at.ensures.front c.split_at.ensures.back
          (c.are_same.ensures.0 same) (c.is_key.ensures.0 t ∙ ap (keystream s.key s.from) long) ∙ made_is,
      λ e. c.is_key.ensures.1 (other_part bytes front made rest c.split_at.ensures.back (e ∙ sym made_is)
          ∙ sym (ap (keystream s.key s.from) long)),
    )
