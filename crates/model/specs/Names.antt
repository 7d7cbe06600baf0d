-- Names that may stand in a folder.
use Rattle.std.specs.Prelude.{ℕ, Bool, false, not, ◌&&◌, ◌||◌, List, [], ◌∷◌, length, ◌==◌}
use Rattle.std.specs.Ordering.{is_eq}
use Rattle.kinds.specs.Kinds.{Kind}
use Rattle.kinds.specs.Names.{by_bytes}

-- a byte stands somewhere in a name
abbrev pub holds_byte : ℕ → List ℕ → Bool
holds_byte byte [] = false
holds_byte byte (x ∷ xs) = x == byte || holds_byte byte xs

-- two names are equal byte for byte
abbrev pub same_bytes : List ℕ → List ℕ → Bool
same_bytes a b = is_eq (by_bytes a b)

-- not a lawful key, or with byte 0 or 47 ("/"), or "." or ".."
unfoldable pub is_bad_name : Kind → List ℕ → Bool
is_bad_name kind name = not (kind.lawful name) || (holds_byte 0 name || (holds_byte 47 name || (same_bytes name (46 ∷ []) || same_bytes name (46 ∷ 46 ∷ []))))

-- a bookmark may be empty
abbrev pub is_bad_bookmark : Kind → List ℕ → Bool
is_bad_bookmark kind bookmark = not (length bookmark == 0) && is_bad_name kind bookmark
