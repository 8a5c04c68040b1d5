use Rattle.std.proofs.Common.{◌≡◌, fold, zip, rules, ◌∙◌, refl}
use Rattle.generator.proofs.Products.{fold_products}
use Rattle.generator.proofs.polynomials.dot_product.Goals as goal
use Rattle.std.proofs.lemmas.Fn.{fold_over, fronts}
use Rattle.std.proofs.lemmas.Grind.{fold-append}
use Rattle.std.proofs.lemmas.Iterator.{YieldsList-from_slice, YieldsList-from_zip, zips}

pub returns : goal.returns
returns g c =
    let A = g.F.Field.arithmetic in
    let xs = c.args.first.now in
    let ys = c.args.second.now in
    let items = YieldsList-from_zip {s = c.zip.result} (YieldsList-from_slice xs cc) (YieldsList-from_slice ys cc) in
    fold_over (zips fronts fronts) (λ p. (p.0.now, p.1.now)) _ (λ ps t. t ≡ fold (λ u p. A.plus u (A.times p.0 p.1)) 0 ps) _
    (λ ps a x b f j k. search (rules, fold-append)) c.zip.result (zip xs ys) 0 c.fold.result items.runs refl c.fold.ensures.ran
    ∙ fold_products g.met.F.Field.lawful xs ys
