-- What is written is short enough that its length has four octets.
use Rattle.std.proofs.Common.{◌≡◌, ◌++◌, ◌∷◌, [], List, ℕ, length, ap, ◌∙◌, arith}
use Rattle.std.proofs.lemmas.List.{length-append}
use Rattle.mta_ber.specs.Canon.{Written}
use Rattle.mta_units.specs.Canon.{body_octets}
use Rattle.mta_units.proofs.SizeLaws.{body_short}
use Rattle.mta_units.proofs.writing.write_unit.Goals as goal

pub put_length-requires-clause-fits : goal.put_length-requires-clause-fits
put_length-requires-clause-fits c =
    let front = c.put_raw.new.self.octets in
    let body = body_octets c.args.unit.now in
    let octets = λ (w : Written). w.octets in
    let whole : c.into_vec-octets.result.items ≡ front ++ body = c.into_vec-octets.ensures ∙ c.finish.ensures
    ∙ ap octets c.in_ok-put_body.ensures.exact in
    let first : List ℕ = 0 ∷ 0 ∷ 0 ∷ 0 ∷ c.number.result ∷ [] in
    let front_is : front ≡ first = ap octets c.in_ok-put_raw.ensures.ok
    ∙ ap (λ (w : Written). w.octets ++ first) c.new-w.ensures in
    omega (
      arith,
      body_short c.args.unit.now c.requires c.in_ok-put_body.ensures.fits,
      ap length whole,
      length-append front body,
      ap length front_is,
    )
