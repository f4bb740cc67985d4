-- Laws of NaN. The definitions that the contracts cite are `lib.Ieee`'s.
pub mod NanLaws
