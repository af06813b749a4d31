-- The chain of a master's requests (document 02, Req 04): the last one, with which the next is compared.
use Rattle.std.specs.Prelude.{ℕ, ◌+◌, ◌*◌, ◌/◌, Bool, false}
use Rattle.state.specs.declared.chain.Chain.{Chain}
use Rattle.state.specs.declared.state.Drawn.{Drawn}
use Rattle.state.specs.declared.state.Drawn.TheVariants.{Nothing}
use Rattle.state.specs.Number.{drawn_number, drawn_numbered}
use Rattle.state.specs.Image.{bit_of}
use Rattle.state.specs.Unpack.{odd}

-- a request of this master, with this frame count bit, that drew d
abbrev pub chain_of : ℕ → Bool → Drawn → Chain
chain_of master fcb d = record { code = 2 * drawn_number d + bit_of fcb; master = master }

-- its frame count bit
abbrev pub fcb_in : Chain → Bool
fcb_in h = odd h.code

-- what it drew
abbrev pub drawn_in : Chain → Drawn
drawn_in h = drawn_numbered (h.code / 2)

-- no request that a telegram could repeat: 127 is no master's address
abbrev pub no_chain : Chain
no_chain = chain_of 127 false Nothing
