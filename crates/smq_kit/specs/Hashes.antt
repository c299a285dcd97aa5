-- Hashes of keys, by which maps order the keys of a link.
use Rattle.std.specs.Prelude.{ℕ, ◌+◌, ◌*◌, ◌^◌, ◌/◌, ◌%◌, List, [], ◌∷◌}
use Rattle.smq_kit.specs.declared.message_id.Key.{Key}
use Rattle.smq_kit.specs.declared.message_id.Key.TheVariants.{Number, Text}

-- the hash of a text, where the octets before it have this one
abbrev pub hash_of_text : ℕ → List ℕ → ℕ
hash_of_text so_far [] = so_far
hash_of_text so_far (octet ∷ octets) = hash_of_text ((so_far * 31 % 2 ^ 64 + octet) % 2 ^ 64) octets

-- the place of a hash in its block of 1024 times an odd number near a block by the golden ratio: hashes that follow each
-- other stay in their block, out of order
abbrev pub spread : ℕ → ℕ
spread hash = hash / 1024 * 1024 + hash % 1024 * 633 % 1024

-- the hash of a number, or of a text
abbrev pub hash_of : Key → ℕ
hash_of (Number n) = spread (n % 2 ^ 64)
hash_of (Text octets) = spread (hash_of_text 0 octets)
