pub mod DefaultStyles
