use Rattle.blake2s_core.proofs.compress.all_rounds.Goals as goal

pub returns : goal.returns
returns c =
    let v1 = c.round-v.ensures in
    let v2 = rw v1 at c.round-v-2.ensures in
    let v3 = rw v2 at c.round-v-3.ensures in
    let v4 = rw v3 at c.round-v-4.ensures in
    let v5 = rw v4 at c.round-v-5.ensures in
    let v6 = rw v5 at c.round-v-6.ensures in
    let v7 = rw v6 at c.round-v-7.ensures in
    let v8 = rw v7 at c.round-v-8.ensures in
    let v9 = rw v8 at c.round-v-9.ensures in
    rw v9 at c.round-v-10.ensures
