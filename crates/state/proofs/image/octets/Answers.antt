-- `state::image::octets` meets its contract: each called octet is what the image has there, and the others are the fields themselves.
use mathlib.Core.List.{◌∷◌, ◌++◌}
use Rattle.octets.specs.Part.{part}
use Rattle.state.specs.Image.{image}
use Rattle.state.proofs.Written.{two, four}
use Rattle.state.proofs.image.octets.Goals as goal

pub returns : goal.returns
unfolding image
returns c =
    let same = part (image c.args.s) in
    λ i.
    same 0 3
    ++ c.flags.ensures i
    ∷ two (c.word_octets-events.ensures i)
    ++ same 6 10
    ++ c.number.ensures i
    ∷ c.number-2.ensures i
    ∷ c.number-3.ensures i
    ∷ same 19 2
    ++ c.number-4.ensures i
    ∷ c.number-5.ensures i
    ∷ c.inputs_code.ensures i
    ∷ c.number-6.ensures i
    ∷ c.number-7.ensures i
    ∷ same 26 1
    ++ c.modes.ensures i
    ∷ c.from.ensures i
    ∷ c.output_marks.ensures i
    ∷ c.number-8.ensures i
    ∷ c.number-9.ensures i
    ∷ same 32 10
    ++ two (c.word_octets-ident.ensures i)
    ++ four (c.double_octets-remaining.ensures i)
    ++ same 48 16
    ++ four (c.double_octets-reload.ensures i)
