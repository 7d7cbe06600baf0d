-- The register's numbers are a kind that keeps the laws, and its lines have the objects' numbers as keys.
use Rattle.std.proofs.Common.{◌≡◌, ℕ, ◌*◌, ◌%◌, ◌^◌, ◌<◌, eqb, List, length, Equal, ap, ◌∙◌, arith}
use Rattle.std.specs.Ordering.{is_eq}
use Rattle.std.proofs.lemmas.Bool.{eqb-true}
use Rattle.std.proofs.lemmas.Bool.Decides.{nat_tests}
use Rattle.words.specs.BigEndian.{be32, bytes32}
use Rattle.words.proofs.Overwritten.{value32}
use Rattle.kinds.specs.Numbers.{number_of, numeric, register_numbers}
use Rattle.records.specs.Records.{key_of}
use Rattle.model.specs.Trees.{Object, numbered, is_alike}
use Rattle.model.specs.Indexes.{line_of}
use Rattle.model.specs.Soundness.{KeepsLaws}

same_number : (m n : ℕ) → numeric m n ≡ Equal → m ≡ n
same_number m n e = grind (arith, nat_tests)

pub register_laws : KeepsLaws register_numbers
register_laws = record {
  ordered = record {
    self = λ a l. grind (arith, nat_tests);
    mirrored = λ a b l m. grind (arith, nat_tests);
    onward = λ a b c l m n p q. grind (arith, nat_tests);
  };
  level = λ a b l m e. ap (λ n. (n * 2654435761) % 2 ^ 32) (same_number (number_of a) (number_of b) e);
  bounded = record {
    some = λ a l. let n = eqb-true (length a) 4 l in omega arith;
    short = λ a l. let n = eqb-true (length a) 4 l in omega arith;
    narrow = λ a l. omega arith;
  };
}

alike_numbers : (a b : ℕ) → is_eq (numeric a b) ≡ eqb b a
alike_numbers a b = grind (arith, nat_tests)

pub alike_line : (key : List ℕ) (o : Object) → o.number < 2 ^ 32 → is_alike register_numbers key (key_of (line_of o)) ≡ numbered (number_of key) o
alike_line key o m = alike_numbers (number_of key) (be32 (bytes32 o.number) 0) ∙ ap (λ b. eqb b (number_of key)) (value32 o.number m)

pub number_back : (n : ℕ) → n < 2 ^ 32 → number_of (bytes32 n) ≡ n
number_back n l = value32 n l
