-- What each of these lines is answered, where one empty layer of points stands.
use Rattle.std.specs.Prelude.{◌≡◌, [], ◌∷◌, ◌++◌, codes, replicate}
use Rattle.map_model.specs.State.{empty_map}
use Rattle.map_model.specs.Output.{machine_text}

-- what single lines are answered, computed
pub record WorkedLines : Type 0 where
  pub blank : machine_text empty_map (codes "layer a points range" ∷ codes " " ∷ []) ≡ codes "ok\n"
  pub comment_of_any_bytes : machine_text empty_map (codes "layer a points range" ∷ (35 ∷ 255 ∷ []) ∷ []) ≡ codes "ok\n"
  pub nul : machine_text empty_map (codes "layer a points range" ∷ (0 ∷ []) ∷ []) ≡ codes "ok\nno line\n"
  pub tabs : machine_text empty_map (codes "layer a points range" ∷ (9 ∷ codes "size a" ++ 9 ∷ 13 ∷ []) ∷ []) ≡ codes "ok\nsize 0\n"
  pub two_returns : machine_text empty_map (codes "layer a points range" ∷ (codes "size a" ++ 13 ∷ 13 ∷ []) ∷ []) ≡ codes "ok\nno line\n"
  pub delete : machine_text empty_map (codes "layer a points range" ∷ (codes "size a" ++ 127 ∷ []) ∷ []) ≡ codes "ok\nno line\n"
  pub longest : machine_text empty_map (codes "layer a points range" ∷ (codes "size a" ++ replicate 250 32 ++ 13 ∷ []) ∷ []) ≡ codes "ok\nsize 0\n"
  pub too_long : machine_text empty_map (codes "layer a points range" ∷ (codes "size a" ++ replicate 251 32) ∷ []) ≡ codes "ok\nno line\n"
  pub longest_comment : machine_text empty_map (codes "layer a points range" ∷ (35 ∷ replicate 255 120) ∷ []) ≡ codes "ok\n"
  pub too_long_comment : machine_text empty_map (codes "layer a points range" ∷ (35 ∷ replicate 256 120) ∷ []) ≡ codes "ok\nno line\n"
  pub capital : machine_text empty_map (codes "layer a points range" ∷ codes "Size a" ∷ []) ≡ codes "ok\nno command\n"
  pub one_word : machine_text empty_map (codes "layer a points range" ∷ codes "size" ∷ []) ≡ codes "ok\nno fields\n"
  pub three_words : machine_text empty_map (codes "layer a points range" ∷ codes "size a a" ∷ []) ≡ codes "ok\nno fields\n"
  pub long_name : machine_text empty_map (codes "layer a points range" ∷ codes "size abcdefghijklmnopq" ∷ []) ≡ codes "ok\nno name\n"
  pub plus : machine_text empty_map (codes "layer a points range" ∷ codes "get a +1" ∷ []) ≡ codes "ok\nno number\n"
  pub minus : machine_text empty_map (codes "layer a points range" ∷ codes "get a -1" ∷ []) ≡ codes "ok\nno number\n"
  pub past_64_bits : machine_text empty_map (codes "layer a points range" ∷ codes "get a 18446744073709551616" ∷ []) ≡ codes "ok\nno range\n"
  pub leading_zeros : machine_text empty_map (codes "layer a points range" ∷ codes "get a 0000000000018446744073709551615" ∷ []) ≡ codes "ok\nno unknown 18446744073709551615\n"
  pub number_before_range : machine_text empty_map (codes "layer a points range" ∷ codes "add a 1 99999999999999999999999999 x 0" ∷ []) ≡ codes "ok\nno number\n"
  pub range_before_order : machine_text empty_map (codes "layer a points range" ∷ codes "count a 5 9 4 4294967296" ∷ []) ≡ codes "ok\nno range\n"
  pub order : machine_text empty_map (codes "layer a points range" ∷ codes "count a 5 9 4 8" ∷ []) ≡ codes "ok\nno order\n"
  pub kind_without_index : machine_text empty_map (codes "layer a points range" ∷ codes "layer b segments range" ∷ []) ≡ codes "ok\nno index\n"
