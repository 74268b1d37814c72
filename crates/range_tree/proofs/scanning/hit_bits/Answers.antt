use Rattle.std.proofs.Common.{◌≡◌, leb, length, w32, arith, refl, rules}
use Rattle.std.proofs.lemmas.Simd.{bitmask_splat}
use Rattle.range_tree.proofs.HitBits.{splat_below, hits_are}
use Rattle.range_tree.proofs.scanning.hit_bits.Goals as goal

pub returns : goal.returns
returns c =
    let rect = c.args.rect.now in
    let leaf = c.args.leaf.now in
    let whole : length leaf.ys ≡ 16 = search rules in
    hits_are rect leaf c.args.places.from c.args.places.to whole c.requires.own _ _ _ (splat_below leaf.ys rect.y1 whole)
    (bitmask_splat w32 leb leaf.ys 16 rect.y2 whole (omega arith)) refl
