pub mod Five
-- the proof of the laws, which stands here since the `impl` of the trait cites it
pub mod FiveLaws
