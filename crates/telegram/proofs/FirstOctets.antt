-- Which first octets begin a telegram.
use Rattle.std.proofs.Common.{◌≡◌, ℕ, List, [], ◌∷◌, sym, refl, subst, inl, inr}
use Rattle.telegram.specs.declared.reader.Status.TheVariants.{Inside}
use Rattle.telegram.specs.Telegram.{Telegram, sd1, sd2, sd3, sd4, octets_of}
use Rattle.telegram.specs.Reading.{reader_step, run, status}
use Rattle.telegram.specs.Framing.{Continues, Delimiter, FirstOctets}
use Rattle.telegram.proofs.Framing.{framing}

-- a telegram's octets begin with its delimiter
delimited : (t : Telegram) (b : ℕ) (ys : List ℕ) → octets_of t ≡ b ∷ ys → Delimiter b
delimited (sd1 da sa fc) b ys e = inl cc
delimited (sd2 da sa fc ds) b ys e = inr (inl cc)
delimited (sd3 da sa fc ds) b ys e = inr (inr (inl cc))
delimited (sd4 da sa) b ys e = inr (inr (inr cc))

inside : (b : ℕ) → status (run (b ∷ [])) ≡ Inside → Continues (b ∷ [])
inside b e = ((framing (b ∷ [])).part.0 e).2

goes : (b : ℕ) → Delimiter b → Continues (b ∷ [])
unfolding reader_step status
goes b (inl e) = subst (λ (x : ℕ). Continues (x ∷ [])) (sym e) (inside 0x10 refl)
goes b (inr (inl e)) = subst (λ (x : ℕ). Continues (x ∷ [])) (sym e) (inside 0x68 refl)
goes b (inr (inr (inl e))) = subst (λ (x : ℕ). Continues (x ∷ [])) (sym e) (inside 0xA2 refl)
goes b (inr (inr (inr e))) = subst (λ (x : ℕ). Continues (x ∷ [])) (sym e) (inside 0xDC refl)

pub first_octets : FirstOctets
first_octets b = (λ c. delimited c.3.0 b (c.0 ∷ c.1) c.3.2, goes b)
