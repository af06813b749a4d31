-- The framing of document 01's bench examples a, b, g, h, i, j, by computation.
use Rattle.std.proofs.Common.{◌≡◌, ℕ, List, [], ◌∷◌, ◌++◌, replicate, refl}
use Rattle.telegram.specs.declared.reader.Status.TheVariants.{Inside, Complete, Broken}
use Rattle.telegram.specs.Telegram.{sd1, sd2, octets_of}
use Rattle.telegram.specs.Reading.{run, status, reader_step, start, gathered, finished, takes_data}

-- a: a status request of master 2 to station 5, and the reply
a : List ℕ
a = 0x10 ∷ 0x05 ∷ 0x02 ∷ 0x49 ∷ 0x50 ∷ 0x16 ∷ []

a_read : run a ≡ finished (sd1 0x05 0x02 0x49)
unfolding reader_step a
a_read = refl

a_reply : octets_of (sd1 0x02 0x05 0x00) ≡ 0x10 ∷ 0x02 ∷ 0x05 ∷ 0x00 ∷ 0x07 ∷ 0x16 ∷ []
a_reply = refl

-- b: Slave_Diag with its service points, and the reply of a fresh station
b : List ℕ
b = 0x68 ∷ 0x05 ∷ 0x05 ∷ 0x68 ∷ 0x85 ∷ 0x82 ∷ 0x6D ∷ 0x3C ∷ 0x3E ∷ 0xEE ∷ 0x16 ∷ []

b_read : run b ≡ finished (sd2 0x85 0x82 0x6D (0x3C ∷ 0x3E ∷ []))
unfolding reader_step b
b_read = refl

b_points : ((run b).dsap ≡ 0x3C) × ((run b).ssap ≡ 0x3E) × (gathered start b ≡ [])
unfolding reader_step b takes_data
b_points = (refl, refl, refl)

b_reply : octets_of (sd2 0x82 0x85 0x08 (0x3E ∷ 0x3C ∷ 0x02 ∷ 0x05 ∷ 0x00 ∷ 0xFF ∷ 0x80 ∷ 0xB3 ∷ []))
    ≡ 0x68 ∷ 0x0B ∷ 0x0B ∷ 0x68 ∷ 0x82 ∷ 0x85 ∷ 0x08 ∷ 0x3E ∷ 0x3C ∷ 0x02 ∷ 0x05 ∷ 0x00 ∷ 0xFF ∷ 0x80 ∷ 0xB3 ∷ 0xC2 ∷ 0x16 ∷ []
b_reply = refl

-- g: a with another check octet breaks off at it
g : (status (run (0x10 ∷ 0x05 ∷ 0x02 ∷ 0x49 ∷ [])) ≡ Inside) × (status (run (0x10 ∷ 0x05 ∷ 0x02 ∷ 0x49 ∷ 0x51 ∷ [])) ≡ Broken)
unfolding reader_step status
g = (refl, refl)

-- h, i: LE 3 and LE 250 break off
h : status (run (0x68 ∷ 3 ∷ [])) ≡ Broken
unfolding reader_step status
h = refl

i : status (run (0x68 ∷ 250 ∷ [])) ≡ Broken
unfolding reader_step status
i = refl

-- j: LE 249 is read, with 246 data octets
j : List ℕ
j = 0x68 ∷ 249 ∷ 249 ∷ 0x68 ∷ 5 ∷ 2 ∷ 0x5D ∷ (replicate 246 0 ++ (0x64 ∷ 0x16 ∷ []))

j_read : (status (run j) ≡ Complete) × (gathered start j ≡ replicate 246 0)
unfolding reader_step j status takes_data
j_read = (refl, refl)

-- the first octet after which no telegram can result: DA with bit 7 in SD1, in SD4 and in an SD2 with one data octet
no_room : (status (run (0x10 ∷ 0x85 ∷ [])) ≡ Broken) × (status (run (0xDC ∷ 0x85 ∷ [])) ≡ Broken)
    × (status (run (0x68 ∷ 4 ∷ 4 ∷ 0x68 ∷ 0x85 ∷ [])) ≡ Broken) × (status (run (0x68 ∷ 5 ∷ 5 ∷ 0x68 ∷ 0x85 ∷ [])) ≡ Inside)
unfolding reader_step status
no_room = (refl, refl, refl, refl)

-- the acknowledgement E5 begins no telegram
single_unread : status (run (0xE5 ∷ [])) ≡ Broken
unfolding reader_step status
single_unread = refl
