-- The values that a refusal prints.
use Rattle.std.specs.Prelude.{ℕ, ◌≤◌, List, [], ◌∷◌, length, decimal}
use Rattle.hex.specs.Hex.{encode_lower}
use Rattle.sd_names.specs.Id.{id_text}
use Rattle.sd_names.specs.declared.value.Value.{Value}
use Rattle.sd_names.specs.declared.value.Value.TheVariants.{Number, Identifier, Word, Digest}
use Rattle.sd_names.specs.declared.value.Values.{Values}
use Rattle.sd_names.specs.declared.value.Values.TheVariants.{Zero, One, Two, Three}

-- a value as it is printed
abbrev pub value_text : Value → List ℕ
value_text (Number n) = decimal n
value_text (Identifier id) = id_text id.0
value_text (Word word) = word.now
value_text (Digest bytes) = encode_lower bytes

abbrev pub value_texts : Values → List (List ℕ)
value_texts Zero = []
value_texts (One a) = value_text a ∷ []
value_texts (Two a b) = value_text a ∷ value_text b ∷ []
value_texts (Three a b c) = value_text a ∷ value_text b ∷ value_text c ∷ []

-- a value has at most 40 bytes: a word is short
abbrev pub IsShort : Value → Type 0
IsShort (Number n) = Unit {0}
IsShort (Identifier id) = Unit {0}
IsShort (Word word) = length word.now ≤ 40
IsShort (Digest bytes) = Unit {0}

abbrev pub AreShort : Values → Type 0
AreShort Zero = Unit {0}
AreShort (One a) = IsShort a
AreShort (Two a b) = IsShort a × IsShort b
AreShort (Three a b c) = IsShort a × IsShort b × IsShort c
